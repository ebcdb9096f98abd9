-- What the check of a zone's text promises.
use Rattle.std.specs.Prelude.{◌≡◌, Bool, ◌||◌, [], ◌∷◌, ◌++◌, length, Option, Result, Ok, Err, is_ok, IfSome, IfOk, OnOk, OnErr, codes}
use Rattle.std.specs.Io.KnownBytes.{Appends, Consumes, IsAtEnd}
use Rattle.sipl_names.specs.Labels.{Octets, Labels}
use Rattle.sipl_masterfile.specs.Zones.{Zone, zone_of}
use Rattle.sipl_masterfile.specs.ZoneFault.{code_of as zone_code}
use Rattle.sipl_masterfile.specs.declared.fault.ZoneFault.{ZoneFault}
use Rattle.sipl_lines.specs.ReplyText.{counts_line, text_fault_line}
use Rattle.sipl_lines.specs.Turns.{AppendsPrefix, EndsWithNone}
use Rattle.sipl_lines.specs.Tapped.{tapped_inner, has_failed}
use Rattle.sipl_lines.specs.ServeFault.{is_read_fault, is_write_fault, OnTooManyTurns}
use Rattle.sipl_lines.specs.declared.server.ServeFault.{ServeFault}
use Rattle.sipl_lines.specs.declared.tapped.Tapped.{Tapped}

-- the report on a zone's text: how many records it has, how many are outside and how many are
-- repeated, or its first fault
abbrev pub report_of : Result Zone ZoneFault → Octets
report_of (Ok zone) =
    counts_line (codes "ok") (length zone.records ∷ zone.outside ∷ zone.repeated ∷ [])
report_of (Err fault) = text_fault_line (codes "err") fault.line (zone_code fault)

-- a read gave a piece of the input, which was appended to a text
pub record ReadsPiece (more : Bool) (unread left : Option Octets) (old new : Octets) : Type 0 where
  pub got : Octets
  pub consumed : Consumes unread left got
  pub appended : new ≡ old ++ got
  pub ends : EndsWithNone more got left

-- all of the input was read, and appended to a text
pub record ReadsAll (unread left : Option Octets) (old new : Octets) : Type 0 where
  pub got : Octets
  pub consumed : Consumes unread left got
  pub appended : new ≡ old ++ got
  pub ended : IsAtEnd left

-- A zone's text was checked so, from a reader and a writer to others.
pub record Checks {A B : Type 0} (apex : Labels) (result : Result Bool ServeFault)
    (remaining : A → Option Octets) (contents : B → Option Octets)
    (reader reader' : Tapped A) (writer writer' : Tapped B) : Type 0 where
  -- the report on the whole input, and whether it is a zone
  pub report : IfOk result (λ is_zone. IfSome (remaining (tapped_inner reader))
      (λ text. (is_zone ≡ is_ok (zone_of text apex))
      × Appends (contents (tapped_inner writer)) (contents (tapped_inner writer'))
      (report_of (zone_of text apex))))
  pub end_of_input : OnOk result (IsAtEnd (remaining (tapped_inner reader')))
  -- a prefix of the report, where the check was aborted
  pub prefix : OnErr result (IfSome (remaining (tapped_inner reader))
      (λ text. AppendsPrefix (contents (tapped_inner writer)) (contents (tapped_inner writer'))
      (report_of (zone_of text apex))))
  -- which fault it is; the number of reads is not limited
  pub reader_failed : has_failed reader' ≡ (has_failed reader || is_read_fault result)
  pub writer_failed : has_failed writer' ≡ (has_failed writer || is_write_fault result)
  pub unlimited : OnTooManyTurns result ⊥
