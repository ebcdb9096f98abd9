-- The cases of a name: where its answer is found (RFC 1034, 3.6.2; RFC 4592, 2.2.1 and 3.3.1).
use Rattle.std.specs.Prelude.{◌≡◌, ◌≢◌, ℕ, ◌+◌, List, [], ◌++◌, Some}
use Rattle.sipl_names.specs.Labels.{Labels, wildcard_at}
use Rattle.sipl_records.specs.declared.data.Data.{Data}
use Rattle.sipl_records.specs.declared.kind.Kind.{Kind}
use Rattle.sipl_records.specs.declared.kind.Kind.TheVariants.{Alias, Exists}
use Rattle.sipl_evidence.specs.Answers.{asking_within, first_target}
use Rattle.sipl_evidence.specs.Enclosers.{FollowsNone, IsNowhere, IsSynthesized}
use Rattle.sipl_evidence.specs.Looks.{Look, key, result_of}

-- The case of a name and a kind, where so many ancestors may be asked for and so many aliases followed: the
-- name has data; it has none, and its first alias is followed; no alias of it is followed, and it exists;
-- neither it nor an ancestor exists; or of the wildcard at its closest encloser, that has data; has none, and
-- its first alias is followed; or has none, and no alias of it is followed.
pub data NameCase (look : Look) (ancestors left : ℕ) (kind : Kind) (name : Labels) : Type 0 where
  has_data : look (key name kind) ≢ [] → NameCase look ancestors left kind name
  is_alias : (target : Labels) (fewer : ℕ) → left ≡ fewer + 1 → look (key name kind) ≡ []
      → first_target (look (key name Alias)) ≡ Some target → NameCase look ancestors left kind name
  exists : look (key name kind) ≡ [] → FollowsNone look left name → look (key name Exists) ≢ []
      → NameCase look ancestors left kind name
  is_nowhere : look (key name kind) ≡ [] → FollowsNone look left name → IsNowhere look name
      → NameCase look ancestors left kind name
  wildcard_has_data : (below encloser : Labels) → name ≡ below ++ encloser
      → IsSynthesized look ancestors left kind below encloser
      → look (key (wildcard_at encloser) kind) ≢ [] → NameCase look ancestors left kind name
  wildcard_is_alias : (below encloser target : Labels) (fewer : ℕ) → left ≡ fewer + 1 → name ≡ below ++ encloser
      → IsSynthesized look ancestors left kind below encloser
      → look (key (wildcard_at encloser) kind) ≡ []
      → first_target (look (key (wildcard_at encloser) Alias)) ≡ Some target → NameCase look ancestors left kind name
  wildcard_has_none : (below encloser : Labels) → name ≡ below ++ encloser
      → IsSynthesized look ancestors left kind below encloser
      → look (key (wildcard_at encloser) kind) ≡ [] → FollowsNone look left (wildcard_at encloser)
      → NameCase look ancestors left kind name

-- which of the cases it is
abbrev pub number_of : {look : Look} {ancestors left : ℕ} {kind : Kind} {name : Labels} → NameCase look ancestors left kind name → ℕ
number_of (has_data some) = 1
number_of (is_alias target fewer is none to) = 2
number_of (exists none follows some) = 3
number_of (is_nowhere none follows nowhere) = 4
number_of (wildcard_has_data below encloser is synthesized some) = 5
number_of (wildcard_is_alias below encloser target fewer more is synthesized none to) = 6
number_of (wildcard_has_none below encloser is synthesized none follows) = 7

-- the answer in a case: data, the answer at the target of an alias over one alias fewer, or none
abbrev pub answer_in : {look : Look} {ancestors left : ℕ} {kind : Kind} {name : Labels} → NameCase look ancestors left kind name → List Data
answer_in {look} {ancestors} {left} {kind} {name} (has_data some) = look (key name kind)
answer_in {look} {ancestors} {left} {kind} {name} (is_alias target fewer is none to) =
    result_of look (asking_within ancestors fewer target kind)
answer_in (exists none follows some) = []
answer_in (is_nowhere none follows nowhere) = []
answer_in {look} {ancestors} {left} {kind} {name} (wildcard_has_data below encloser is synthesized some) =
    look (key (wildcard_at encloser) kind)
answer_in {look} {ancestors} {left} {kind} {name} (wildcard_is_alias below encloser target fewer more is synthesized none to) =
    result_of look (asking_within ancestors fewer target kind)
answer_in (wildcard_has_none below encloser is synthesized none follows) = []
