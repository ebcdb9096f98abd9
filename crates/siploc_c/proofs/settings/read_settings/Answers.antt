use Rattle.std.specs.Prelude.{Err, string_bytes}
use Rattle.std.proofs.Common.{◌≡◌, refl, sym, ap, ◌∙◌, inl, inr}
use Rattle.sipl_lines.specs.Settings.{settings_of}
use Rattle.sipl_lines.specs.SettingsFault.{unknown_key, bad_value}
use Rattle.siploc_c.proofs.settings.read_settings.Goals as goal

pub returns-in-Err-UnknownKey-clause-refused : goal.returns-in-Err-UnknownKey-clause-refused
returns-in-Err-UnknownKey-clause-refused c =
    let fault = unknown_key (string_bytes c.in-Err-UnknownKey.field-0-0) in
    let refused : settings_of c.in-Ok.text.now ≡ Err fault = rw c.in-Err-UnknownKey.field-0-is at c.in-Err-UnknownKey.ensures.refused in
    inl (refl, inr (fault, ap settings_of (sym c.in-Ok.ensures.cases.0) ∙ refused))

pub returns-clause-refused : goal.returns-clause-refused
returns-clause-refused c =
    let fault = bad_value (string_bytes c.in-Err-BadValue.field-0-0) in
    let refused : settings_of c.in-Ok.text.now ≡ Err fault = rw c.in-Err-BadValue.field-0-is at c.in-Err-BadValue.ensures.refused in
    inl (refl, inr (fault, ap settings_of (sym c.in-Ok.ensures.cases.0) ∙ refused))
