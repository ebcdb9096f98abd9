-- Lemmas on reading all of an input.
use Rattle.std.proofs.Common.{◌≡◌, ◌≢◌, ℕ, [], ◌∷◌, ◌++◌, true, false, refl, sym, ap, ◌∙◌, append_assoc, append-nil, ◌<◌, ◌+◌, length, arith, Err}
use Rattle.std.proofs.lemmas.List.{length-append}
use Rattle.std.specs.Prelude.{Option, None, Some, IfSome}
use Rattle.std.specs.Io.KnownBytes.{Consumes}
use Rattle.std.proofs.KnownBytes.{Appends-nil, Consumes-nil, Consumes-trans}
use Rattle.sipl_names.specs.Labels.{Octets}
use Rattle.sipl_lines.specs.Checking.{ReadsAll, ReadsPiece}
use Rattle.sipl_lines.specs.ServeFault.{is_read_fault}
use Rattle.sipl_lines.specs.Turns.{AppendsPrefix}
use Rattle.sipl_lines.specs.declared.server.ServeFault.{ServeFault}
use Rattle.sipl_lines.specs.declared.server.ServeFault.TheVariants.{Read, Write, TooManyTurns, Memory}

-- so much was read, and appended to a text
pub record HasRead (unread left : Option Octets) (old new : Octets) : Type 0 where
  pub got : Octets
  pub consumed : Consumes unread left got
  pub appended : new ≡ old ++ got

pub read_none : (unread : Option Octets) (old : Octets) → HasRead unread unread old old
read_none unread old = record { got = []; consumed = Consumes-nil unread; appended = sym (append-nil old) }

pub read_more : {unread now : Option Octets} {old text : Octets} (left : Option Octets) (new : Octets)
    → HasRead unread now old text → ReadsPiece true now left text new → HasRead unread left old new
read_more {unread} {now} {old} {text} left new before piece =
    record {
      got = before.got ++ piece.got;
      consumed = Consumes-trans unread now left before.got piece.got before.consumed piece.consumed;
      appended = piece.appended ∙ ap (λ t. t ++ piece.got) before.appended ∙ append_assoc old before.got piece.got;
    }

pub read_to_end : {unread now : Option Octets} {old text : Octets} (left : Option Octets) (new : Octets)
    → HasRead unread now old text → ReadsPiece false now left text new → ReadsAll unread left old new
read_to_end {unread} {now} {old} {text} left new before piece =
    record {
      got = before.got ++ piece.got;
      consumed = Consumes-trans unread now left before.got piece.got before.consumed piece.consumed;
      appended = piece.appended ∙ ap (λ t. t ++ piece.got) before.appended ∙ append_assoc old before.got piece.got;
      ended = piece.ends.1;
    }

some_are_more : (n : ℕ) (got : Octets) → got ≢ [] → n < n + length got
some_are_more n [] some = absurd (some refl)
some_are_more n (c ∷ got) some = omega arith

-- a piece makes a text longer
pub longer : {now left : Option Octets} {text new : Octets} → ReadsPiece true now left text new → length text < length new
longer {now} {left} {text} {new} piece =
    let grown : length new ≡ length text + length piece.got = ap length piece.appended ∙ length-append text piece.got in
    let more : length text < length text + length piece.got = some_are_more (length text) piece.got piece.ends in
    omega arith

-- a fault is that of a read whatever would have been returned
pub same_read_fault : (A B : Type 0) (fault : ServeFault) → is_read_fault {T = A} (Err fault) ≡ is_read_fault {T = B} (Err fault)
same_read_fault A B Read = refl
same_read_fault A B Write = refl
same_read_fault A B TooManyTurns = refl
same_read_fault A B Memory = refl

-- what is unwritten has a prefix of each report
pub none_written : (unread old : Option Octets) (report : Octets → Octets) → IfSome unread (λ text. AppendsPrefix old old (report text))
none_written None old report = tt
none_written (Some text) old report = ([], report text, refl, Appends-nil old)
