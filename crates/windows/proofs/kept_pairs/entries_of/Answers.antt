use Rattle.windows.proofs.Vocabulary.{◌∙◌, [], ◌∷◌, ◌++◌, refl, sym, ap, subst, append_assoc, here, AreEntriesOf, AreRising, IsPairBefore}
use Rattle.windows.proofs.KeptLaws.{rises_front}
use Rattle.windows.proofs.RestoreLemmas.{no_entries}
use Rattle.windows.proofs.kept_pairs.entries_of.Goals as goal

pub loop-pair-init : goal.loop-pair-init
loop-pair-init c = (tt, tt, subst (AreEntriesOf []) (sym c.in_ok-entries.ensures.empty) no_entries, refl)

pub put_time-requires : goal.put_time-requires
put_time-requires c =
    let split = sym c.into_iter-pair-iterator.ensures.into_iter_gives.0 ∙ c.loop-pair.invariant.3 ∙ ap (λ l. c.loop-pair.yielded ++ l) c.in-Some.ensures.steps.0 in (
      c.loop-pair.yielded,
      c.loop-pair.invariant.2,
      λ q there. (rises_front IsPairBefore c.loop-pair.yielded (c.in-Some.pair ∷ c.next.new.self.rest.items) (subst AreRising split c.requires)).1
          q c.in-Some.pair there (here c.in-Some.pair c.next.new.self.rest.items),
    )

pub loop-pair-preserved : goal.loop-pair-preserved
loop-pair-preserved c =
    let split = sym c.into_iter-pair-iterator.ensures.into_iter_gives.0 ∙ c.loop-pair.invariant.3 ∙ ap (λ l. c.loop-pair.yielded ++ l) c.in-Some.ensures.steps.0 in (
      tt,
      tt,
      c.in_ok-put_time.ensures c.loop-pair.yielded c.loop-pair.invariant.2 (λ q there.
          (rises_front IsPairBefore c.loop-pair.yielded (c.in-Some.pair ∷ c.next.new.self.rest.items) (subst AreRising split c.requires)).1 q c.in-Some.pair there
          (here c.in-Some.pair c.next.new.self.rest.items)),
      c.loop-pair.invariant.3 ∙ ap (λ l. c.loop-pair.yielded ++ l) c.in-Some.ensures.steps.0 ∙ sym (append_assoc c.loop-pair.yielded (c.in-Some.pair ∷ []) c.next.new.self.rest.items),
    )
