-- Codes of names.
use Rattle.std.specs.Prelude.{ℕ, ◌%◌, ◌^◌, fold}
use Rattle.std.specs.Hash.FoldHasher as folding
use Rattle.sipl_names.specs.Labels.{Labels}
use Rattle.sipl_names.specs.contracts.name.NameHash.TheImpl.{hash_input-value}

-- a name's code: a hash of its octets, below 2^32
abbrev pub code_of_name : Labels → ℕ
code_of_name name = folding.finish (fold folding.write folding.initial (hash_input-value.it name)) % 2 ^ 32
