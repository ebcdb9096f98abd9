use Rattle.std.proofs.Common.{◌≡◌, not, ap, sym, ◌∙◌, rules}
use Rattle.std.specs.List.{list_any}
use Rattle.std.specs.Str.{str_to_ascii_lowercase}
use Rattle.sipl_names.specs.Labels.{Octets}
use Rattle.sipl_uri.specs.Params.{Settings, same_text}
use Rattle.sipl_uri.proofs.SeenNames.{list_any-reverse-map}
use Rattle.sipl_uri.proofs.params.Settings.insert_name.Goals as goal

pub returns-clause-new : goal.returns-clause-new
returns-clause-new c =
    let lower : c.in_ok-name.name.items ≡ str_to_ascii_lowercase c.args.name.now = search rules in
    c.in_ok-insert.ensures.added
    ∙ ap not (ap (λ (name : Octets). list_any (λ other. same_text name other.items) c.self.inside.names.keys) lower
    ∙ sym (list_any-reverse-map (same_text (str_to_ascii_lowercase c.args.name.now)) (λ name. name.items) c.self.inside.names.keys)
    ∙ ap (λ (s : Settings). list_any (same_text (str_to_ascii_lowercase c.args.name.now)) s.names) c.self.view_is)
