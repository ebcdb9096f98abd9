-- What is seen of the settings: the names of the table, the latest first.
use Rattle.std.specs.Prelude.{map, reverse}
use Rattle.sipl_uri.specs.declared.params.Settings.TheInside.{Inside}
use Rattle.sipl_uri.specs.Params.{Settings}

-- the settings of the fields
abbrev pub settings_of : Inside → Settings
settings_of s =
    record {
      names = reverse (map (λ name. name.items) s.names.keys);
      transport = s.transport;
      target = s.target;
    }
