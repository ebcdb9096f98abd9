-- The closest encloser of a name: there is one where an ancestor exists, and it is the only one.
use Rattle.std.proofs.Common.{◌≡◌, ◌≢◌, List, [], ◌∷◌, ◌++◌, ◌⊎◌, inl, inr, refl, sym, ap, ◌∙◌}
use Rattle.sipl_names.specs.Labels.{Octets, Labels}
use Rattle.sipl_records.specs.declared.data.Data.{Data}
use Rattle.sipl_records.specs.declared.kind.Kind.TheVariants.{Exists}
use Rattle.sipl_evidence.specs.Enclosers.{IsClosest, IsNowhere}
use Rattle.sipl_evidence.specs.Looks.{Look, key}

-- a set has data or none
abbrev pub IsOneOf : List Data → Type 0
IsOneOf set = (set ≡ []) ⊎ (set ≢ [])

pub is_one_of : (set : List Data) → IsOneOf set
is_one_of [] = inl refl
is_one_of (datum ∷ others) = inr (λ e. cc)

-- the label of a name of one label, in two parts of which the second is not empty
whole : (label : Octets) (labels rest : Labels) → label ∷ [] ≡ labels ++ rest → rest ≢ [] → rest ≡ label ∷ []
whole label [] rest is some = sym is
whole label (first ∷ []) [] is some = absurd (some refl)
whole label (first ∷ []) (other ∷ rest) is some = absurd (let never = is in cc)
whole label (first ∷ second ∷ labels) rest is some = absurd (let never = is in cc)

module _ (look : Look) where
  -- a name has an encloser that is the closest
  abbrev pub Encloser : Labels → Type 0
  Encloser name = (below : Labels) × (encloser : Labels) × (name ≡ below ++ encloser) × IsClosest look below encloser

  -- the parent exists
  parent-closest : (label : Octets) (parent : Labels) → look (key (label ∷ parent) Exists) ≡ [] → look (key parent Exists) ≢ [] → Encloser (label ∷ parent)
  parent-closest label parent absent some = (
    label ∷ [],
    parent,
    refl,
    record {
      apart = λ e. cc;
      exists = some;
      nearest = λ labels rest is more. ap (λ ls. look (key (ls ++ parent) Exists)) (whole label labels rest is more) ∙ absent;
    },
  )

  -- the closest one of the parent is the closest one of a name that does not exist
  further-closest : (label : Octets) (parent : Labels) → look (key (label ∷ parent) Exists) ≡ [] → Encloser parent → Encloser (label ∷ parent)
  further-closest label parent absent (below, encloser, is, closest) = (
    label ∷ below,
    encloser,
    ap (λ ls. label ∷ ls) is,
    record {
      apart = λ e. cc;
      exists = closest.exists;
      nearest = further;
    },
  )
    where
      further : (labels rest : Labels) → label ∷ below ≡ labels ++ rest → rest ≢ [] → look (key (rest ++ encloser) Exists) ≡ []
      further [] rest at some = ap (λ ls. look (key (ls ++ encloser) Exists)) (sym at) ∙ ap (λ ls. look (key (label ∷ ls) Exists)) (sym is) ∙ absent
      further (first ∷ labels) rest at some = closest.nearest labels rest (let same = at in cc) some

  nowhere-further : (label : Octets) (parent : Labels) → look (key (label ∷ parent) Exists) ≡ [] → IsNowhere look parent → IsNowhere look (label ∷ parent)
  nowhere-further label parent absent nowhere [] rest is = ap (λ ls. look (key ls Exists)) (sym is) ∙ absent
  nowhere-further label parent absent nowhere (first ∷ labels) rest is = nowhere labels rest (let same = is in cc)

  -- a name that does not exist has a closest encloser, or none of its ancestors exists
  pub sought : (name : Labels) → look (key name Exists) ≡ [] → IsNowhere look name ⊎ Encloser name
  sought [] absent = inl root
    where
      root : (labels rest : Labels) → [] ≡ labels ++ rest → look (key rest Exists) ≡ []
      root [] rest is = ap (λ ls. look (key ls Exists)) (sym is) ∙ absent
      root (first ∷ labels) rest is = absurd (let never = is in cc)
  sought (label ∷ parent) absent = by (is_one_of (look (key parent Exists))) (λ none. sought parent none)
    where
      above : IsNowhere look parent ⊎ Encloser parent → IsNowhere look (label ∷ parent) ⊎ Encloser (label ∷ parent)
      above (inl nowhere) = inl (nowhere-further label parent absent nowhere)
      above (inr encloser) = inr (further-closest label parent absent encloser)

      by : IsOneOf (look (key parent Exists)) → (look (key parent Exists) ≡ [] → IsNowhere look parent ⊎ Encloser parent) → IsNowhere look (label ∷ parent) ⊎ Encloser (label ∷ parent)
      by (inl none) further = above (further none)
      by (inr some) further = inr (parent-closest label parent absent some)

  -- of two closest enclosers neither is above the other
  pub closest-equal : (below encloser further other : Labels) → IsClosest look below encloser → IsClosest look further other → below ++ encloser ≡ further ++ other → encloser ≡ other
  closest-equal [] encloser further other closest second is = absurd (closest.apart refl)
  closest-equal (label ∷ below) encloser [] other closest second is = absurd (second.apart refl)
  closest-equal (label ∷ []) encloser (first ∷ []) other closest second is = let same = is in cc
  closest-equal (label ∷ []) encloser (first ∷ next ∷ further) other closest second is =
      let at : encloser ≡ (next ∷ further) ++ other = let same = is in cc in
      let absent : look (key ((next ∷ further) ++ other) Exists) ≡ [] = second.nearest (first ∷ []) (next ∷ further) refl (λ e. cc) in
      absurd (closest.exists (ap (λ ls. look (key ls Exists)) at ∙ absent))
  closest-equal (label ∷ next ∷ below) encloser (first ∷ []) other closest second is =
      let at : other ≡ (next ∷ below) ++ encloser = let same = is in cc in
      let absent : look (key ((next ∷ below) ++ encloser) Exists) ≡ [] = closest.nearest (label ∷ []) (next ∷ below) refl (λ e. cc) in
      absurd (second.exists (ap (λ ls. look (key ls Exists)) at ∙ absent))
  closest-equal (label ∷ next ∷ below) encloser (first ∷ then ∷ further) other closest second is =
      closest-equal (next ∷ below) encloser (then ∷ further) other (less label next below encloser closest) (less first then further other second) (let same = is in cc)
    where
      less : (label next : Octets) (below encloser : Labels) → IsClosest look (label ∷ next ∷ below) encloser → IsClosest look (next ∷ below) encloser
      less label next below encloser closest = record {
        apart = λ e. cc;
        exists = closest.exists;
        nearest = λ labels rest is some. closest.nearest (label ∷ labels) rest (ap (λ ls. label ∷ ls) is) some;
      }
