use Rattle.windows.proofs.Vocabulary.{◌≡◌, ◌∙◌, ◌<◌, [], ◌∷◌, ◌++◌, All, sym, ap, subst, IsRisingBy}
use Rattle.windows.proofs.TimeLemmas.{either_way, rising_push}
use Rattle.windows.specs.machine.StoredTimes.{stored_times}
use Rattle.windows.proofs.times.Times.push.Goals as goal

pub invariant_of-self : goal.invariant_of-self
invariant_of-self c =
    let before : c.deref_mut.result.now.items ≡ stored_times c.self.inside.stored = ap (λ d. d.items) c.deref_mut.ensures.value ∙ sym (ap stored_times c.in-Several.is) in
    either_way c.put_last.result _ _ (IsRisingBy ◌<◌ c.put_last.new.times.items) c.put_last.ensures.ok c.put_last.ensures.err
    (λ ok. subst (IsRisingBy ◌<◌) (sym (ok ∙ ap (λ l. l ++ c.args.time ∷ []) before))
    (rising_push (stored_times c.self.inside.stored) c.args.time c.self.invariant (subst (All (λ t. t < c.args.time)) (sym c.self.view_is) c.requires)))
    (λ err. subst (IsRisingBy ◌<◌) (sym (err ∙ before)) c.self.invariant)
