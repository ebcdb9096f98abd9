-- Words without the zeros at their end.
use Rattle.std.proofs.Common.{◌≡◌, ℕ, zero, suc, ◌+◌, ◌-◌, ◌<◌, ◌≤◌, Bool, cond, List, [], ◌∷◌, ◌++◌, length, replicate, nat_eq, Ok, refl, sym, ap, ◌∙◌, arith, length-append}
use Rattle.std.specs.Bool.{one_answer}
use Rattle.std.proofs.Math.Dec.{eqb-suc-zero}
use Rattle.std.proofs.lemmas.Bool.{le-leb}
use Rattle.std.proofs.lemmas.Nat.{le_or_l, le_or_r}
use Rattle.std.specs.Int.Bits.{bit_or}
use Rattle.std.proofs.lemmas.Bool.Decides.{Decides-like}
use Rattle.std.proofs.lemmas.List.{length-replicate}
use lib.Pointwise.{pointwise, bytes_decides}
use Rattle.sipl_srv.specs.Draws.{words_of}
use Rattle.sipl_book.specs.Words.{AreGiven, before_zeros, with_last_zeros, without_last_zeros}

pub zero_is_dropped : (words : List ℕ) → without_last_zeros (words ++ 0 ∷ []) ≡ without_last_zeros words
zero_is_dropped [] = refl
zero_is_dropped (word ∷ words) = ap (before_zeros word) (zero_is_dropped words)

-- where no bit of a word and of those before it is set, that word leaves no more than those before it
pub none_before : (words : List ℕ) (word bits : ℕ) → (bits ≡ 0 → without_last_zeros words ≡ []) → bit_or bits word ≡ 0 → without_last_zeros (words ++ word ∷ []) ≡ []
none_before words word bits known none =
    let first : bits ≡ 0 = let fewer = le_or_l bits word in omega arith in
    let last : word ≡ 0 = let fewer = le_or_r bits word in omega arith in
    ap (λ end. without_last_zeros (words ++ end ∷ [])) last ∙ zero_is_dropped words ∙ known first

before_more : (word last : ℕ) (words : List ℕ) → before_zeros word (words ++ last ∷ []) ≡ word ∷ (words ++ last ∷ [])
before_more word last [] = refl
before_more word last (next ∷ words) = refl

before_none : (last : ℕ) → before_zeros (suc last) [] ≡ suc last ∷ []
before_none last = ap (λ (is_zero : Bool). cond is_zero [] (suc last ∷ [])) (eqb-suc-zero last)

pub last_is_kept : (words : List ℕ) (last : ℕ) → 0 < last → without_last_zeros (words ++ last ∷ []) ≡ words ++ last ∷ []
last_is_kept [] zero positive = absurd (omega arith)
last_is_kept [] (suc last) positive = before_none last
last_is_kept (word ∷ words) last positive = ap (before_zeros word) (last_is_kept words last positive) ∙ before_more word last words

-- zeros alone, and after words
zeros_are_dropped : (words : List ℕ) (count : ℕ) → without_last_zeros (words ++ replicate count 0) ≡ without_last_zeros words
zeros_are_dropped [] zero = refl
zeros_are_dropped [] (suc count) = ap (before_zeros 0) (zeros_are_dropped [] count)
zeros_are_dropped (word ∷ words) count = ap (before_zeros word) (zeros_are_dropped words count)

-- none of 0 is at the end of what is left
before_given : (word : ℕ) (words : List ℕ) → without_last_zeros words ≡ words → without_last_zeros (before_zeros word words) ≡ before_zeros word words
before_given zero [] known = refl
before_given (suc word) [] known = ap without_last_zeros (before_none word)
before_given word (next ∷ words) known = ap (before_zeros word) known

pub left_is_given : (words : List ℕ) → without_last_zeros (without_last_zeros words) ≡ without_last_zeros words
left_is_given [] = refl
left_is_given (word ∷ words) = before_given word (without_last_zeros words) (left_is_given words)

before_fewer : (word : ℕ) (words : List ℕ) → length (before_zeros word words) ≤ suc (length words)
before_fewer zero [] = omega arith
before_fewer (suc word) [] = rw (before_none word) (omega arith)
before_fewer word (next ∷ words) = omega arith

left_is_fewer : (words : List ℕ) → length (without_last_zeros words) ≤ length words
left_is_fewer [] = omega arith
left_is_fewer (word ∷ words) = let all = left_is_fewer words in let first = before_fewer word (without_last_zeros words) in omega arith

-- the zeros that are left out, put back
before_filled : (word : ℕ) (given words : List ℕ) → ((count : ℕ) → length given + count ≡ length words → given ++ replicate count 0 ≡ words) → (count : ℕ) → length (before_zeros word given) + count ≡ suc (length words) → before_zeros word given ++ replicate count 0 ≡ word ∷ words
before_filled zero [] words known zero long = absurd (omega arith)
before_filled zero [] words known (suc count) long = ap (λ others. 0 ∷ others) (known count (omega arith))
before_filled (suc word) [] words known count long =
    ap (λ given. given ++ replicate count 0) (before_none word)
    ∙ ap (λ others. suc word ∷ others) (known count (let one = ap length (before_none word) in omega arith))
before_filled word (next ∷ given) words known count long = ap (λ others. word ∷ others) (known count (omega arith))

filled : (words : List ℕ) (count : ℕ) → length (without_last_zeros words) + count ≡ length words → without_last_zeros words ++ replicate count 0 ≡ words
filled [] zero long = refl
filled [] (suc count) long = absurd (omega arith)
filled (word ∷ words) count long = before_filled word (without_last_zeros words) words (filled words) count long

pub given_is_kept : (given : List ℕ) → AreGiven given → without_last_zeros (with_last_zeros given) ≡ given
given_is_kept given known = zeros_are_dropped given (32 - length given) ∙ known.last

pub all_are_32 : (given : List ℕ) → AreGiven given → length (with_last_zeros given) ≡ 32
all_are_32 given known = length-append given (replicate (32 - length given) 0) ∙ (rw (length-replicate {A = ℕ} (32 - length given) 0) (let few = known.few in omega arith))

pub left_are_given : (words : List ℕ) → length words ≡ 32 → AreGiven (without_last_zeros words)
left_are_given words long = record { few = (let fewer = left_is_fewer words in omega arith); last = left_is_given words }

pub all_words : (words : List ℕ) → length words ≡ 32 → with_last_zeros (without_last_zeros words) ≡ words
all_words words long = filled words (32 - length (without_last_zeros words)) (let fewer = left_is_fewer words in omega arith)

pub words_of_left : (words : List ℕ) → length words ≡ 32 → words_of (without_last_zeros words) ≡ Ok words
words_of_left words long =
    rw (le-leb (length (without_last_zeros words)) 32 (left_are_given words long).few) (ap (λ all. Ok all) (all_words words long))

pub same_left : (a b : List ℕ) → length a ≡ 32 → length b ≡ 32 → pointwise nat_eq (without_last_zeros a) (without_last_zeros b) ≡ pointwise nat_eq a b
same_left a b long long' =
    one_answer _ _
    (Decides-like _ (λ e. sym (all_words a long) ∙ ap with_last_zeros e ∙ all_words b long') (λ e. ap without_last_zeros e)
    (bytes_decides (without_last_zeros a) (without_last_zeros b)))
    (bytes_decides a b)
