-- Events that are carried out again, one more.
use Rattle.std.proofs.Common.{ℕ, ◌+◌, List, [], ◌∷◌, ◌++◌, length-append, append_assoc, append-nil, refl, sym, ap, ◌∙◌, arith}
use Rattle.std.specs.List.{flat_map}
use Rattle.std.proofs.lemmas.List.Concat.{flat_map-append}
use Rattle.sipl_names.specs.Labels.{Octets}
use Rattle.sipl_archive.specs.Plain.{PlainState}
use Rattle.sipl_archive.specs.Replay.{Exchange, Repeats, RepeatsAll, RepeatsFirst, RepeatsSome, exchange_text}

repeats_last : (exchanges : List Exchange) (last : Exchange) (before between after : PlainState)
    → RepeatsAll exchanges before between → Repeats last between after → RepeatsAll (exchanges ++ last ∷ []) before after
repeats_last [] last before between after none repeats = (after, rw none at repeats, refl)
repeats_last (exchange ∷ others) last before between after all repeats =
    (all.0, all.1, repeats_last others last all.0 between after all.2 repeats)

-- one event more
pub repeats_more : (text rest left : Octets) (count : ℕ) (before between after : PlainState)
    → RepeatsSome text rest count before between → RepeatsFirst rest left between after → RepeatsSome text left (count + 1) before after
repeats_more text rest left count before between after some first = record {
  exchanges = some.exchanges ++ first.exchange ∷ [];
  len = simp length-append (omega (arith, some.len));
  text_is = some.text_is ∙ ap (λ (others : Octets). flat_map exchange_text some.exchanges ++ others) first.text_is
      ∙ sym (append_assoc (flat_map exchange_text some.exchanges) (exchange_text first.exchange) left)
      ∙ ap (λ (whole : Octets). whole ++ left) (sym (flat_map-append exchange_text some.exchanges (first.exchange ∷ []) ∙ ap (λ (end : Octets). flat_map exchange_text some.exchanges ++ end) (append-nil (exchange_text first.exchange))));
  repeats = repeats_last some.exchanges first.exchange before between after some.repeats first.repeats;
}
