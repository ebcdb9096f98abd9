-- What a handle owns, as machine values. Assumes `Logic`.
--     E                          the box whose address it is
--     handle_out, handle_in      a handle by value is the session in memory and the right to free it
--     handle_opens               the same behind a `&mut`: [the session with that right; the word; the open borrow; obs; auth]
use Rattle.std.proofs.Common.{◌≡◌, ℕ, List, [], ◌∷◌, ◌++◌, refl, sym, ap, subst}
use seplogic.Ra.Ura.{Ura}
use mir.Syntax.{Dict, impl, tcons, tnil, dnil}
use mir.Raw.{raw as bare}
use mir.Val.{Val, vptr, vstruct, vcons, vnil, of_list}
use base.Fraction.{full_share}
use base.Fml.{Lft, GName, Share, fobs, fauth, flft, fbor, fobor}
use base.Logic.{never, fst∗}
use types.Logic.{Logic, sem}
use types.SemTy.{Body as Borrowed}
use types.Kit.{Goal, Soaks, Step, step, Seq, Item, ‵, ◌$◌, move, drop, fsplit, fjoin, fpick, fpack, rewrite, feq_i, feq_l}
use denote.RattleType.{RattleType, Valss}
use denote.Memory.{cell_at, mem, lone}
use denote.RawPtr.{Ptr, RawPtr, block_ptr, null_ptr, ptr_val, in_a_block}
use denote.Exit.{no}
use denote.Param.{arg, layout}
use denote.Param.Laws.{arg_laws}
use denote.Steps.{opens, nothing}
use denote.Struct.Struct.{within}
use denote.Struct.Owning.{shape}
use Rattle.libc.specs.Heap.{chunk}
use Rattle.std_alloc.proofs.BoxSteps.Form.{Bx}
use Rattle.std_heap.specs.contracts.Global as Heap
use Rattle.std_heap.specs.contracts.GlobalAllocator.TheImpl.{ghosts, dict}
use Rattle.std_heap.proofs.Global.TheLaws as heap
use Rattle.siploc_c.specs.Owned.{owned}
use Rattle.siploc_c.specs.contracts.embedded.Embedded as Embedded
use Rattle.siploc_c.proofs.embedded.Embedded.TheLaws as embedded
use Rattle.siploc_c.specs.contracts.handle.Handle as Handle

abbrev pub R : RattleType
R = Embedded.the_row

-- the session and the allocator as the types that a call of a generic function passes
abbrev pub T₁ : RattleType
T₁ = arg (bare (layout R)) no R

abbrev pub T₂ : RattleType
T₂ = arg (bare (layout Heap.the_row)) no Heap.the_row

-- the drop of the allocator, which has none
abbrev pub none : Dict
none = impl ("siploc_c::Destruct++none::drop" ∷ []) (tcons (layout T₂) tnil) dnil

-- the drop of a session
abbrev pub drops : Dict
drops = impl ("siploc_c::siploc_c++embedded++Embedded+Destruct::drop" ∷ []) tnil dnil

abbrev pub E : Bx
E = record { row = T₁; laws = arg_laws (bare (layout R)) no R embedded.the_row_laws refl; al = record { row = T₂; laws = arg_laws (bare (layout Heap.the_row)) no Heap.the_row heap.the_row_laws refl; g = ghosts; d = dict; drops = none } }

abbrev pub B : RattleType
B = Handle.the_row

abbrev pub word : ℕ → ℕ → Val
word b o = vstruct (vcons (vptr b o) vnil)

module _ {M : Type 1} {𝓤 : Ura M} {𝓛 : Logic 𝓤} {K : Type 0} {Γ : List (Item 𝓤)} {G : Goal 𝓤 𝓛.H} where
  pub handle_out : K → (d : B.Denot) (vs : List Val)
      → ((b o : ℕ) → d.at ≡ block_ptr b o → vs ≡ word b o ∷ [] → Seq K 𝓛 (‵ (owned (block_ptr b o) d.value) ∷ Γ) G)
      → Seq K 𝓛 (‵ (B.own_val d vs) ∷ Γ) G
  handle_out t d vs k =
      fsplit t $ fpick t (λ vss. fsplit t $ feq_l t (λ ev. fsplit t $ feq_l t (λ ep. drop t $
      in_a_block t d.at (λ p. owned p d.value) (fst∗ 𝓤 (never 𝓤) (sem 𝓛 (chunk (bare (lone R.mir)) null_ptr))) (λ b o e. k b o e
      (subst (λ (p : Ptr). vs ≡ vstruct (of_list (ptr_val p ∷ [])) ∷ []) e (subst (λ (ps : List Val). vs ≡ vstruct (of_list (ps ++ [])) ∷ []) ep ev))))))

  pub handle_in : K → (d : B.Denot) (b o : ℕ) (x : R.Denot) → d.at ≡ block_ptr b o → d.value ≡ x
      → Step K 𝓛 (‵ (B.own_val d (word b o ∷ [])) ∷ Γ) G (‵ (owned (block_ptr b o) x) ∷ Γ) G
  handle_in t d b o x e f = step (λ s.
      rewrite t 0 (λ (y : R.Denot). ‵ (owned (block_ptr b o) y)) (sym f) refl $ rewrite t 0 (λ (p : Ptr). ‵ (owned p d.value)) (sym e) refl $
      nothing t $ feq_i t (List Val) (vptr b o ∷ []) (ptr_val d.at ∷ []) (ap (λ (p : Ptr). ptr_val p ∷ []) (sym e)) $ fjoin t $
      feq_i t (List Val) (word b o ∷ []) (word b o ∷ []) refl $ fjoin t $
      fpack t (Valss (RawPtr ∷ [])) (within (shape Handle.the_type) (d.at, tt) (word b o ∷ [])) (vptr b o ∷ [], tt) $ fjoin t $ s)

module _ {M : Type 1} {𝓤 : Ura M} {𝓛 : Logic 𝓤} {K : Type 0} {Γ : List (Item 𝓤)} {G : Goal 𝓤 𝓛.H} where
  pub handle_opens : K → Soaks G → {κ : Lft} {q : Share} {γ : GName} (d : B.Denot) (rb ro : ℕ)
      → ((b o : ℕ) → d.at ≡ block_ptr b o → Seq K 𝓛 (‵ (owned (block_ptr b o) d.value) ∷ ‵ (cell_at full_share B.mir (word b o ∷ []) rb ro)
      ∷ ‵ (fobor κ q (Borrowed (mem B) rb ro γ)) ∷ ‵ (fobs γ (B.coded.code d)) ∷ ‵ (fauth γ (B.coded.code d)) ∷ Γ) G)
      → Seq K 𝓛 (‵ (fobs γ (B.coded.code d)) ∷ ‵ (fbor κ (Borrowed (mem B) rb ro γ)) ∷ ‵ (flft κ q) ∷ Γ) G
  handle_opens t z d rb ro k =
      opens t z B {h = d} rb ro (λ vs. move t (1 ∷ []) $ handle_out t d vs (λ b o e ws. rewrite t 1 (λ (us : List Val). ‵ (cell_at full_share B.mir us rb ro)) ws refl $ k b o e))
