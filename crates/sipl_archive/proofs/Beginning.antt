-- A text that begins with whole commands, one more.
use Rattle.std.proofs.Common.{◌≡◌, ◌≢◌, ℕ, ◌+◌, List, [], ◌∷◌, ◌++◌, false, Option, Some, take, drop, refl, sym, ap, ◌∙◌, eq-eqb, take-append-drop}
use Rattle.std.specs.Prelude.{nat_eq}
use Rattle.std.specs.Option.{option_eq}
use Rattle.std.proofs.lemmas.Bool.{false≢true}
use Rattle.std.proofs.lemmas.List.{drop-drop}
use Rattle.std.proofs.lemmas.List.Elements.{All-append, All-cons, All-nil}
use Rattle.sipl_names.specs.Labels.{Octets}
use Rattle.sipl_lines.specs.CommandLines.{after_command, first_line}
use Rattle.sipl_archive.specs.Commands.{Begins, HasNone, checkpoint_in}
use Rattle.sipl_archive.proofs.Cutting.{command_cut}

begins_last : (commands : List Octets) (command text between after : Octets)
    → Begins commands text between → after_command between ≡ Some after → between ≡ command ++ after → Begins (commands ++ command ∷ []) text after
begins_last [] command text between after none whole split = (after, rw none at whole, rw none at split, refl)
begins_last (first ∷ others) command text between after all whole split =
    (all.0, all.1, all.2, begins_last others command all.0 between after all.3 whole split)

-- the next command, of so many octets
pub begins_more : (commands : List Octets) (text : Octets) (octets len : ℕ)
    → Begins commands text (drop octets text) → after_command (drop octets text) ≡ Some (drop len (drop octets text))
    → Begins (commands ++ take len (drop octets text) ∷ []) text (drop (octets + len) text)
begins_more commands text octets len begins whole =
    rw (sym (drop-drop len octets text))
    (begins_last commands (take len (drop octets text)) text (drop octets text) (drop len (drop octets text)) begins whole (sym (take-append-drop len (drop octets text))))

-- the next command is no checkpoint of this number either
pub has_none_more : (checkpoint : ℕ) (commands : List Octets) (text : Octets) (octets len : ℕ)
    → HasNone checkpoint commands → after_command (drop octets text) ≡ Some (drop len (drop octets text))
    → false ≡ option_eq nat_eq (checkpoint_in (first_line (drop octets text))) (Some checkpoint) → HasNone checkpoint (commands ++ take len (drop octets text) ∷ [])
has_none_more checkpoint commands text octets len none whole differs =
    let command = take len (drop octets text) in
    let is_other : Octets → Type 0 = λ (it : Octets). checkpoint_in (first_line it) ≢ Some checkpoint in
    let line = (command_cut (drop octets text) command (drop len (drop octets text)) whole (sym (take-append-drop len (drop octets text)))).line in
    let other : is_other command =
    λ e. false≢true (differs ∙ ap (λ (m : Option ℕ). option_eq nat_eq m (Some checkpoint)) (ap checkpoint_in (sym line) ∙ e) ∙ eq-eqb checkpoint checkpoint refl) in
    All-append is_other commands (command ∷ []) none (All-cons is_other command [] other (All-nil is_other))
