-- The closest encloser of a name that does not exist (RFC 4592, 3.3.1).
use Rattle.std.specs.Prelude.{◌≡◌, ◌≢◌, ℕ, ◌≤◌, ◌⊎◌, [], ◌++◌, length, None}
use Rattle.sipl_names.specs.Labels.{Labels}
use Rattle.sipl_records.specs.declared.kind.Kind.{Kind}
use Rattle.sipl_records.specs.declared.kind.Kind.TheVariants.{Alias, Exists}
use Rattle.sipl_evidence.specs.Looks.{Look, key}
use Rattle.sipl_evidence.specs.Answers.{first_target}

-- no alias of a name is followed: no more may be, or it has none
abbrev pub FollowsNone : Look → ℕ → Labels → Type 0
FollowsNone look left name = (left ≡ 0) ⊎ (first_target (look (key name Alias)) ≡ None)

-- neither the name nor an ancestor of it exists
abbrev pub IsNowhere : Look → Labels → Type 0
IsNowhere look name =
    (labels rest : Labels) → name ≡ labels ++ rest → look (key rest Exists) ≡ []

-- RFC 4592, 3.3.1: of the name with these labels below an encloser, this is the closest: it exists, and
-- no name between them does, nor the name itself
pub record IsClosest (look : Look) (below encloser : Labels) : Type 0 where
  pub apart : below ≢ []
  pub exists : look (key encloser Exists) ≢ []
  pub nearest : (labels rest : Labels)
      → below ≡ labels ++ rest → rest ≢ [] → look (key (rest ++ encloser) Exists) ≡ []

-- RFC 4592, 2.2.1: the answer to the name with these labels below an encloser is synthesized: it has no
-- data of the kind, no alias of it is followed, and the encloser is its closest, among so many ancestors
pub record IsSynthesized (look : Look) (ancestors left : ℕ) (kind : Kind) (below encloser : Labels) : Type 0 where
  pub no_data : look (key (below ++ encloser) kind) ≡ []
  pub no_alias : FollowsNone look left (below ++ encloser)
  pub closest : IsClosest look below encloser
  pub within : length below ≤ ancestors
