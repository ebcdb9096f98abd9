use Rattle.std.proofs.Common.{◌≡◌, ℕ, false, List, [], ◌∷◌, length, take, ap, sym, subst, ◌∙◌, arith}
use Rattle.std.proofs.lemmas.List.{length-take-le}
use Rattle.sipl_choice.specs.Abilities.{repeats_transport}
use Rattle.sipl_choice.specs.declared.transport.Transport.{Transport}
use Rattle.sipl_choice.specs.declared.transport.Transport.TheVariants.{Udp}
use Rattle.sipl_choice.proofs.FewTransports.{length_few}
use Rattle.sipl_choice.proofs.abilities.Abilities.new.Goals as goal

-- the places of transports
abbrev places : List Transport
places = Udp ∷ Udp ∷ Udp ∷ Udp ∷ []

few : (transports : List Transport) (count : ℕ) → repeats_transport transports ≡ false → count ≡ length transports → length (take count places) ≡ count
few transports count once is = length-take-le count places (omega (arith, length_few transports once, is))

pub slice_bounds-copy_from_slice-end : goal.slice_bounds-copy_from_slice-end
slice_bounds-copy_from_slice-end c =
    let once : repeats_transport c.args.preference.items ≡ false = subst (λ items. repeats_transport items ≡ false) c.deref.ensures.value (sym c.repeats_transport.ensures ∙ c.if-repeats_transport.false) in
    sym (few c.args.preference.items c.len-count.result once (omega (arith, c.len-count.ensures, c.args.preference.ok)))

pub copy_from_slice-requires : goal.copy_from_slice-requires
copy_from_slice-requires c =
    let once : repeats_transport c.args.preference.items ≡ false = subst (λ items. repeats_transport items ≡ false) c.deref.ensures.value (sym c.repeats_transport.ensures ∙ c.if-repeats_transport.false) in
    few c.args.preference.items c.len-count.result once (omega (arith, c.len-count.ensures, c.args.preference.ok))
    ∙ omega (arith, c.len-count.ensures, c.args.preference.ok, ap length c.deref-2.ensures.value)

pub slice_bounds-kept-end : goal.slice_bounds-kept-end
slice_bounds-kept-end c =
    let once : repeats_transport c.args.preference.items ≡ false = subst (λ items. repeats_transport items ≡ false) c.deref.ensures.value (sym c.repeats_transport.ensures ∙ c.if-repeats_transport.false) in
    omega (arith, length_few c.args.preference.items once, c.len-count.ensures, c.args.preference.ok)
