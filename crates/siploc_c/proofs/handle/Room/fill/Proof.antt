-- `fill` writes the address of the box. Assumes `Logic`.
use Rattle.std.proofs.Common.{◌≡◌, ℕ, List, [], ◌∷◌, ◌++◌, refl, sym, ap, ◌∙◌, subst}
use Rattle.std.specs.Prelude.{Some}
use seplogic.Ra.Ura.{Ura}
use mir.Raw.{raw as bare}
use mir.Val.{Val, vptr, vunit}
use base.Fraction.{full_share}
use base.Logic.{SProp, ent, emp, never, fst∗, id⊢}
use base.Fml.{ftrue, flft}
use prog.Wp.{WpFn}
use types.Logic.{sem}
use types.Kit.{‵, raw, ◌⊛◌, some, later, ◌$◌, ◌∵◌, !, qed, move, keep, drop, split, split3, join, fsplit, fsplit3, fjoin, fjoin3, fpack, pick, suffices, use0, use1, await, rewrite, feq_i, feq_l, done}
use types.Run.{stop, fld, of_opd, unit_lit, no_more, and_then, assigns, returns, enter}
use types.ByLocal.{alloc_all, pass_all, free_all, look_at, get, through, sets, lands_as}
use types.Part.{sub, whole, store_in}
use types.Tokens.{lft_new}
use contract.Monad.{fact, fact_i}
use contract.BorrowLft.{◌⊑◌, ⊑_static}
use contract.Running.{tables}
use denote.Exit.{yes}
use denote.Laws.{Is, shows}
use denote.RattleType.{RattleType, Valss, owns}
use denote.Memory.{lone, cell_at}
use denote.Param.NoDrop.{glues}
use denote.RawPtr.{Ptr, RawPtr, block_ptr, null_ptr, ptr_val, in_a_block}
use denote.Signature.{types_at, plain}
use denote.Steps.{nothing, only, opens, closes, peeks}
use denote.Struct.Struct.{within}
use denote.Struct.Owning.{shape}
use denote.Triple.Call.{calls_at}
use denote.Triple.Clauses.{Lasts, lasts}
use denote.Triple.Spec.{triple_of}
use denote.Triple.Walked.{Stays, stay_ref, stay_dropped, walk_of, says, ends_at, Goes-dropped, Goes-ref}
use Rattle.core.proofs.atomic.Steps.{fm}
use Rattle.libc.specs.Heap.{chunk}
use Rattle.std.proofs.raw_atomic.Walks.{proved_at}
use Rattle.std_alloc.specs.contracts.boxed.Box as Box
use Rattle.std_alloc.specs.contracts.boxed.Box.into_raw as callee
use Rattle.std_alloc.proofs.boxed.Box.into_raw.Met.{met}
use Rattle.std_alloc.proofs.BoxSteps.Form as box
use Rattle.std_alloc.proofs.BoxSteps.Steps.{box_out, box_in}
use Rattle.std_heap.specs.contracts.Global as Heap
use Rattle.std_heap.specs.contracts.GlobalAllocator.TheImpl.{ghosts, dict}
use Rattle.std_heap.proofs.GlobalAllocator.TheImpl.Met as allocates
use Rattle.siploc_c.specs.Owned.{owned}
use Rattle.siploc_c.proofs.Destruct++none.drop.Code.{code as none_code}
use Rattle.siploc_c.proofs.Dropped.{dropped}
use Rattle.siploc_c.proofs.Held.{E, R, T₁, T₂, none, drops, word}
use Rattle.siploc_c.specs.contracts.handle.Room as Room
use Rattle.siploc_c.proofs.handle.Room.TheLaws.{lowers}
use Rattle.siploc_c.specs.contracts.handle.Room.fill as f
use Rattle.siploc_c.proofs.handle.Room.fill.Statement.{statement}
use Rattle.siploc_c.proofs.handle.Room.fill.Code as code

abbrev Boxed : RattleType
Boxed = Box.the_row R Heap.the_row ghosts

abbrev stayed : Stays f.ended.signature.params f.ended.kept
stayed = (stay_ref (0 ∷ []) tt (plain (λ _. Room.the_row)), (stay_dropped (plain (λ _. Boxed)) yes, tt))

pub fill_spec : {M : Type 1} → statement M
unfolding none_code
fill_spec {M} 𝓤 𝓛 𝓜 𝓡 wired =
    let H = 𝓛.H in let 𝓣 = tables 𝓤 H 𝓜 𝓡 𝓡.env in let c = f.clauses 𝓛 𝓜.mem 𝓡.returns in let fn = code.function in
    proved_at 𝓛 f.ended stayed c 𝓜 𝓡 (Goes-ref 𝓛 1 0 tt (plain (λ _. Room.the_row)), (Goes-dropped 𝓛 1 (plain (λ _. Boxed)) yes (λ κs x f. refl), tt)) f.Key.name fn (code.unfolded 𝓤 H 𝓜 𝓡 wired) (λ z are.
    let κ = z.0.0.0 in let q = z.0.1.0 in let rb = z.0.3.0.ref_ptr.0 in let ro = z.0.3.0.ref_ptr.1 in let h = z.0.3.0.now in let v = z.0.3.1.0 in let vss = z.0.4 in
    let Post : Val → SProp 𝓤 = (walk_of 𝓛 f.ended stayed c).post z in
    let Run : List Val → SProp 𝓤 = λ ws. WpFn 𝓤 H 𝓣.C 𝓣.Λ fn ws Post in
    qed 𝓛 (((‵ (flft κ q) ⊛ ‵ ftrue) ⊛ ‵ (owns (types_at f.ended.signature.params z.0.0) z.0.3 vss)) ∷ raw (emp 𝓤) ∷ []) ∵
    split ! $ split ! $ move ! (2 ∷ []) $ fsplit ! $ fsplit3 ! $ feq_l ! (λ e₀. move ! (2 ∷ []) $ fsplit ! $
    -- [the box; nothing; obs; the borrow; its token]
    box_out E ! v vss.1.0 (λ b o hv e ws fits. box_in E ! v b o v.value e refl $
    let w : Val = box.word E hv b o in let typed = box.box_typed E hv b o fits in
    suffices ! (Run (vptr rb ro ∷ w ∷ [])) (subst (λ (us : List Val). ent 𝓤 (Run (vptr rb ro ∷ w ∷ [])) (Run us)) (sym (λ i. e₀ i ++ (ws i ++ []))) (id⊢ 𝓤 (Run (vptr rb ro ∷ w ∷ [])))) $
    keep ! (0 ∷ 2 ∷ 3 ∷ 4 ∷ []) $
    enter ! 𝓣.C 𝓣.Λ fn (vptr rb ro ∷ w ∷ []) Post $ alloc_all ! (λ l. pass_all ! refl ((tt, tt), (typed, tt)) $
    sets ! (of_opd ! (get ! refl)) refl typed $
    lft_new ! tt (λ α. lft_new ! tt (λ β.
    -- [β's token; α's; the box; obs; the borrow; its token]
    let k = triple_of 𝓛 (callee.signature T₁ T₂ ghosts dict none drops) (callee.spec T₁ T₂ ghosts dict none drops 𝓛 𝓜.mem 𝓡.returns) in
    let y : k.Ghost = (((α ∷ [], (β ∷ [], tt)), (full_share, (full_share, tt)), tt, (v, tt), (w ∷ [], tt)), tt) in
    nothing ! $ use0 𝓛 (raw (fact 𝓤 (β ∷ [] ⊑ T₂.lives))) (fact_i 𝓤 (β ∷ [] ⊑ T₂.lives) (emp 𝓤) (⊑_static (β ∷ []))) $ join ! $
    use0 𝓛 (raw (fact 𝓤 (α ∷ [] ⊑ T₁.lives))) (fact_i 𝓤 (α ∷ [] ⊑ T₁.lives) (emp 𝓤) (⊑_static (α ∷ []))) $ join ! $
    -- [what is asked; β's token; α's; the box; obs; the borrow; its token]
    nothing ! $ move ! (4 ∷ 0 ∷ []) $ fjoin ! $ nothing ! $ move ! (3 ∷ 0 ∷ []) $ join ! $ move ! (3 ∷ 0 ∷ []) $ join ! $ join ! $ join ! $ use1 𝓛 (raw (k.pre y)) (id⊢ 𝓤 _) $
    calls_at ! (fm 𝓛 𝓜 𝓡) k (met 𝓤 𝓛 𝓜 𝓡 (code.calls-std_alloc::boxed::Box::into_raw 𝓡.env wired) T₁ T₂ E.laws E.al.laws ghosts dict none drops
    (allocates.passed 𝓡.env (code.calls-std_heap::GlobalAllocator::allocate 𝓡.env wired) (code.calls-std_heap::GlobalAllocator::deallocate 𝓡.env wired) (code.calls-std_heap::GlobalAllocator::grow 𝓡.env wired) (code.calls-std_heap::GlobalAllocator::shrink 𝓡.env wired) M 𝓤 𝓛 𝓜 𝓡)
    (glues "siploc_c::Destruct++none::drop" 𝓡.env (code.calls-siploc_c::Destruct++none::drop 𝓡.env wired) T₂ E.al.laws M 𝓤 𝓛 𝓜 𝓡)
    (dropped 𝓤 𝓛 𝓜 𝓡 (code.calls-siploc_c::siploc_c++embedded++Embedded+Destruct::drop 𝓡.env wired))) y (and_then ! (get ! refl) (no_more !)) (λ u.
    use1 𝓛 (later (some (λ (r : Ptr). ((‵ (flft (α ∷ []) full_share) ⊛ ‵ (flft (β ∷ []) full_share) ⊛ ‵ ftrue) ⊛ ‵ (RawPtr.own_val r (u ∷ []))) ⊛ some (λ (ls : Lasts (callee.ended T₁ T₂ ghosts dict none drops) y.0.0 y.0.3).
    ‵ (lasts (callee.ended T₁ T₂ ghosts dict none drops) y.0.0 y.0.3 ls) ⊛ ‵ (owned r v.value))))) (id⊢ 𝓤 (k.post y u)) $
    await ! tt $ pick ! (λ r. split ! $ move ! (1 ∷ []) $ pick ! (λ _. split ! $ drop ! $
    in_a_block ! r (λ p. owned p v.value) (fst∗ 𝓤 (never 𝓤) (sem 𝓛 (chunk (bare (lone R.mir)) null_ptr))) (λ b' o' e'.
    -- [the session with the right to free it; the tokens with the pointer; obs; the borrow; its token]
    move ! (1 ∷ []) $ split ! $ drop ! $ feq_l ! (λ eu. lands_as ! (ap only (eu ∙ ap (λ (p : Ptr). ptr_val p ∷ []) e')) refl (tt, tt) $
    sets ! (of_opd ! (get ! refl)) refl (tt, tt) $
    move ! (1 ∷ 2 ∷ 3 ∷ []) $ opens ! tt Room.the_row rb ro (λ us. move ! (1 ∷ []) $ peeks ! Room.the_row (Is Room.the_row) (shows 𝓛 Room.the_row) h us (λ is. drop ! $
    let at_word = lowers.val_is h us is in
    rewrite ! 0 (λ (ws : List Val). ‵ (cell_at full_share (Room.the_row).mir ws rb ro)) at_word refl $
    assigns ! (of_opd ! (get ! refl)) (through ! refl (fld ! refl (stop !))) (store_in ! 0 (sub ! 0 refl (whole !)) (tt, tt)) $
    sets ! (of_opd ! (unit_lit !)) refl (tt, tt) $
    -- [the word; the open borrow; obs; auth; the session with the right to free it]
    let new : Room.the_row.Denot = record { at = block_ptr b' o'; value = Some v.value } in
    move ! (4 ∷ []) $ nothing ! $ feq_i ! (List Val) (vptr b' o' ∷ []) (vptr b' o' ∷ []) refl $ fjoin ! $ feq_i ! (List Val) (word b' o' ∷ []) (word b' o' ∷ []) refl $ fjoin ! $
    fpack ! (Valss (RawPtr ∷ [])) (within (shape Room.the_type) (block_ptr b' o', tt) (word b' o' ∷ [])) (vptr b' o' ∷ [], tt) $ fjoin ! $
    use1 𝓛 (‵ (Room.the_row.own_val new (word b' o' ∷ []))) (id⊢ 𝓤 _) $ move ! (1 ∷ 0 ∷ []) $
    use1 𝓛 (‵ (cell_at full_share (Room.the_row).mir (word b' o' ∷ []) rb ro)) (id⊢ 𝓤 _) $
    closes ! tt Room.the_row new (word b' o' ∷ []) rb ro $
    -- [obs; the borrow; its token]
    returns ! (look_at ! 0 refl) $ free_all ! refl $ keep ! (0 ∷ 1 ∷ 2 ∷ []) $
    suffices ! _ (ends_at 𝓛 f.ended stayed c z vunit tt (new, (tt, tt)) (tt, (tt, tt))) $ says ! refl $
    feq_i ! (List Val) vss.0 (vptr rb ro ∷ []) e₀ $ fjoin3 ! $
    -- [self; the token]
    feq_i ! (List Val) (vunit ∷ []) (vunit ∷ []) refl $ nothing ! $ nothing ! $ fjoin ! $ move ! (2 ∷ 0 ∷ []) $ fjoin ! $ move ! (0 ∷ 1 ∷ []) $ join ! $
    nothing ! $ move ! (2 ∷ 0 ∷ []) $ join ! $ join ! $ done !)))))))))))))
