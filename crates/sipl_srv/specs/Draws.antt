-- The random words of an order (RFC 2782: "a uniform random number").
use Rattle.std.specs.Prelude.{ℕ, ◌-◌, List, ◌++◌, length, replicate, Result, Ok, Err, nat_le, if◌then◌else◌}
use Rattle.rand_core.specs.Steps.{first_words}
use Rattle.rand_pcg.specs.Lcg.{started, increment_of}
use Rattle.rand_pcg.specs.Pcg.{multiplier_64, pcg32}
use Rattle.sipl_srv.specs.declared.fault.DrawsFault.{DrawsFault}
use Rattle.sipl_srv.specs.declared.fault.DrawsFault.TheVariants.{TooManyWords}

-- the words that are given, followed by 0 up to 32 in all; at most 32 may be given
abbrev pub words_of : List ℕ → Result (List ℕ) DrawsFault
words_of given =
    if nat_le (length given) 32 then Ok (given ++ replicate (32 - length given) 0) else Err TooManyWords

-- the first 32 words of the generator Pcg32 (O'Neill, PCG XSH RR 64/32), started at the seed on
-- stream 0
abbrev pub words_of_seed : ℕ → List ℕ
words_of_seed seed =
    first_words pcg32 32 (started 64 multiplier_64 seed (increment_of 64 0))
