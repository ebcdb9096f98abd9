-- Changes that were made, one more.
use Rattle.std.proofs.Common.{◌≡◌, ℕ, ◌+◌, List, [], ◌∷◌, ◌++◌, Option, Some, take, drop, refl, sym, ap, ◌∙◌, take-append-drop}
use Rattle.std.specs.Option.{option_or}
use Rattle.std.proofs.lemmas.List.{drop-drop}
use Rattle.sipl_names.specs.Labels.{Octets}
use Rattle.sipl_lines.specs.CommandLines.{after_command, first_line}
use Rattle.sipl_archive.specs.Commands.{checkpoint_in}
use Rattle.sipl_archive.specs.Restoring.{MakesAll, MakesFirst, Remaining, after_made}

makes_last : (commands : List Octets) (last : Octets) (before between after : Remaining)
    → MakesAll commands before between → MakesFirst last between after → MakesAll (commands ++ last ∷ []) before after
makes_last [] last before between after none makes = (after, rw none at makes, refl)
makes_last (first ∷ others) last before between after all makes = (all.0, all.1, makes_last others last all.0 between after all.2 makes)

-- one command more, of so many octets, and a reply of so many
pub makes_more : (commands : List Octets) (text replies line : Octets) (octets len : ℕ) (rest left : Octets) (old checkpoint new : Option ℕ)
    → MakesAll commands (record { text = text; replies = replies; checkpoint = old }) (record { text = drop octets text; replies = rest; checkpoint = checkpoint })
    → after_command (drop octets text) ≡ Some (drop len (drop octets text)) → line ≡ first_line (drop octets text)
    → after_made line rest ≡ Some left → new ≡ option_or (checkpoint_in line) checkpoint
    → MakesAll (commands ++ take len (drop octets text) ∷ []) (record { text = text; replies = replies; checkpoint = old }) (record { text = drop (octets + len) text; replies = left; checkpoint = new })
makes_more commands text replies line octets len rest left old checkpoint new all whole is_line replied is_checkpoint =
    let next : drop len (drop octets text) ≡ drop (octets + len) text = drop-drop len octets text in
    makes_last commands (take len (drop octets text)) _ (record { text = drop octets text; replies = rest; checkpoint = checkpoint }) _ all (record {
      text_is = sym (take-append-drop len (drop octets text)) ∙ ap (λ (t : Octets). take len (drop octets text) ++ t) next;
      whole = whole ∙ ap (λ (t : Octets). Some t) next;
      replied = ap (λ (l : Octets). after_made l rest) (sym is_line) ∙ replied;
      checkpoint = is_checkpoint ∙ ap (λ (l : Octets). option_or (checkpoint_in l) checkpoint) is_line;
    })
