-- Where pages do not follow one another.
use Rattle.std.specs.Prelude.{ℕ, zero, suc, List, [], ◌∷◌, Option, Some}
use Rattle.sipl_book.specs.Pages.{Follows, PageState}

-- the page at a place, from 0, is the first that does not follow the one before it
abbrev pub IsGap : Option PageState → List PageState → ℕ → Type 0
IsGap before [] place = ⊥
IsGap before (page ∷ pages) zero = ¬ Follows before page
IsGap before (page ∷ pages) (suc place) = Follows before page × IsGap (Some page) pages place
