use Rattle.std.proofs.Common.{◌≡◌}
use Rattle.std.specs.Map.{keys_of}
use Rattle.std.specs.String.{string_cmp}
use Rattle.std.specs.List.Sorted.{IsStrictlySortedBy}
use Rattle.toml.specs.View.{members_view, table_view}
use Rattle.sipl_lines.specs.Settings.{IsWithinLimits, settings_of_members}
use Rattle.sipl_lines.proofs.InOrder.{settings_from}
use Rattle.sipl_lines.proofs.settings.Settings.from_table.Given as goal

abbrev pub invariant-loop-key : goal.invariant-loop-key
invariant-loop-key l = record {
  given : settings_of_members (table_view l.fn.table) ≡ settings_from (members_view l.key-iterator) l.settings;
  limits : IsWithinLimits l.settings;
  in_order : IsStrictlySortedBy string_cmp (keys_of l.key-iterator);
}
