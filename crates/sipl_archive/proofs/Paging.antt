-- A page that is written in pieces.
use Rattle.std.proofs.Common.{◌≡◌, ℕ, ◌+◌, ◌<◌, List, ◌∷◌, [], ◌++◌, length, take, get_or, Option, append_assoc, append-nil, sym, ap, ◌∙◌}
use Rattle.std.proofs.lemmas.List.{flat_map_more, take_more}
use Rattle.std.specs.Io.KnownBytes.{Appends}
use Rattle.std.proofs.KnownBytes.{Appends-trans}
use Rattle.sha2.specs.Hashers.{Holds256}
use Rattle.sha2.specs.declared.Sha256.{Sha256}
use Rattle.sipl_names.specs.Labels.{Octets}
use Rattle.sipl_book.specs.declared.event.Event.{Event}
use Rattle.sipl_archive.specs.Archive.{WritesPiece, body_text}
use Rattle.sipl_lines.specs.CommandText.{event_lines}

-- a prefix of a text was written and digested, and this is the rest
pub record Sends (old new : Option Octets) (digest : Sha256) (rest text : Octets) : Type 0 where
  pub sent : Octets
  pub written : Appends old new sent
  pub digested : Holds256 digest sent
  pub split : text ≡ sent ++ rest

pub sends_piece : (old mid new : Option Octets) (before after : Sha256) (piece left text : Octets)
    → Sends old mid before piece text → WritesPiece mid new before after piece left
    → Sends old new after left text
sends_piece old mid new before after piece left text sends writes = record {
  sent = sends.sent ++ piece;
  written = Appends-trans old mid new sends.sent piece sends.written writes.written;
  digested = writes.digested sends.sent sends.digested;
  split = sends.split ∙ sym (rw writes.empty (append-nil (sends.sent ++ piece)));
}

pub sends_more : (old new : Option Octets) (digest : Sha256) (rest rest' text text' more : Octets)
    → Sends old new digest rest text → rest' ≡ rest ++ more → text' ≡ text ++ more
    → Sends old new digest rest' text'
sends_more old new digest rest rest' text text' more sends is_rest is_text =
    let joined : (sends.sent ++ rest) ++ more ≡ sends.sent ++ (rest ++ more) = simp append_assoc in
    record {
      sent = sends.sent;
      written = sends.written;
      digested = sends.digested;
      split = is_text ∙ ap (λ (begun : Octets). begun ++ more) sends.split ∙ joined ∙ ap (λ (left : Octets). sends.sent ++ left) (sym is_rest);
    }

pub body_more : (head : Octets) (events : List Event) (i : ℕ) (event : Event) → i < length events → event ≡ get_or events i event
    → body_text head (take (i + 1) events) ≡ body_text head (take i events) ++ event_lines event
body_more head events i event within is_event =
    ap (λ (first : List Event). body_text head first) (take_more events i event within ∙ ap (λ (e : Event). take i events ++ e ∷ []) (sym is_event))
    ∙ sym (flat_map_more event_lines head (take i events) event)
