use Rattle.choice_step.proofs.Vocabulary.{◌∙◌, ◌≡◌, ◌++◌, ◌∷◌, [], ap, subst, sym, take, take_all, take_more, List, NameId, Contains, Contains-append_left, Contains-push, ⊎_elim}
use Rattle.choice_step.proofs.OwnEventLemmas.{divided_again, divided_none, divided_other, divided_own}
use Rattle.enf_data.specs.machine.EventSets.{InsertsItem}
use Rattle.choice_step.specs.machine.OwnEvents.{AreDivided}
use Rattle.choice_step.proofs.own_events.OwnEvents.of.Goals as goal

pub loop-event-init : goal.loop-event-init
loop-event-init c = record {
  divided = subst (λ l. AreDivided c.args.names.now [] l c.new-others.result.items) (sym c.new-own.ensures)
      (subst (λ l. AreDivided c.args.names.now [] [] l) (sym c.new-others.ensures.items) (divided_none c.args.names.now));
  told = λ name marked. absurd (c.in_ok-told.ensures name marked);
}

pub loop-event-preserved-then-has : goal.loop-event-preserved-then-has
loop-event-preserved-then-has c =
    let events = c.args.events.now in
    let i = c.loop-event.event-index in
    let names = c.args.names.now in record {
      divided = subst (λ l. AreDivided names l c.loop-event.own c.loop-event.others.items)
          (sym (take_more events i c.event-item.result c.loop-event-test.true ∙ ap (λ k. take i events ++ k ∷ []) (sym c.event-item.is)))
          (divided_again names (take i events) c.loop-event.own c.loop-event.others.items c.event-item.result c.loop-event.invariant.divided
          (c.loop-event.invariant.told c.event-item.result.name (c.has.ensures c.if-has.true)));
      told = c.loop-event.invariant.told;
    }

pub loop-event-preserved-then-is_one_of : goal.loop-event-preserved-then-is_one_of
loop-event-preserved-then-is_one_of c =
    let events = c.args.events.now in
    let i = c.loop-event.event-index in
    let names = c.args.names.now in
    let own = c.loop-event.own in
    let after = c.put_last.new.set in
    let (new, puts) = c.in_ok-put_last.ensures.put in record {
      divided = subst (λ l. AreDivided names l after c.loop-event.others.items)
          (sym (take_more events i c.event-item.result c.loop-event-test.true ∙ ap (λ k. take i events ++ k ∷ []) (sym c.event-item.is)))
          (divided_own names (take i events) own c.loop-event.others.items c.event-item.result c.loop-event.invariant.divided
          new after (subst (λ e. InsertsItem e own new after) c.in_ok-copy.ensures puts));
      told = c.loop-event.invariant.told;
    }

pub loop-event-preserved : goal.loop-event-preserved
loop-event-preserved c =
    let events = c.args.events.now in
    let i = c.loop-event.event-index in
    let names = c.args.names.now in
    let before = c.loop-event.others.items in
    let name = c.event-item.result.name in
    let others = c.push.new.self.items in
    let put : others ≡ before ++ name ∷ [] = c.in_ok-push.ensures.items in record {
      divided = subst (λ l. AreDivided names l c.loop-event.own others)
          (sym (take_more events i c.event-item.result c.loop-event-test.true ∙ ap (λ k. take i events ++ k ∷ []) (sym c.event-item.is)))
          (subst (λ l. AreDivided names (take i events ++ c.event-item.result ∷ []) c.loop-event.own l) (sym put)
          (divided_other names (take i events) c.loop-event.own before c.event-item.result c.loop-event.invariant.divided
          (c.is_one_of.ensures c.if-is_one_of.false)));
      told = λ other marked. subst (λ (l : List NameId). Contains l other) (sym put) (⊎_elim
          (λ (same : name ≡ other). subst (Contains (before ++ name ∷ [])) same (Contains-push before name))
          (λ old. Contains-append_left before (name ∷ []) other (c.loop-event.invariant.told other old))
          (c.put.ensures other marked));
    }

pub returns : goal.returns
returns c = subst (λ l. AreDivided c.args.names.now l c.loop-event.own c.loop-event.others.items)
    (take_all c.loop-event.event-index c.args.events.now c.loop-event-test.false) c.loop-event.invariant.divided
