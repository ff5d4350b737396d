use Rattle.sleepers.proofs.Vocabulary.{List, ℕ, ap, reverse, sym, subst, subst₂, ◌∙◌, IsAllBut, IsAsleep, AreKept, AreRewound, ahead_of}
use Rattle.sleepers.proofs.BackwardLemmas.{awake_back, rewound_back}
use Rattle.sleepers.proofs.GroupLemmas.{rewound_ahead, woken_all}
use Rattle.sleepers.proofs.GroupWalkLemmas.{begun_kept}
use Rattle.sleepers.proofs.sleeper_list.Sleepers.wake.Goals as goal

pub invariant_of-self-2 : goal.invariant_of-self-2
invariant_of-self-2 g c =
    let events = c.args.events.now in
    let time = c.args.time in
    let groups = c.self.inside.groups in
    let new = c.rewind_each.new.groups in
    let numbers = c.in_ok-numbers.numbers.items in
    let rewound = subst (λ (l : List ℕ). AreRewound l groups new) c.as_slice.ensures.value c.rewind_each.ensures in
    subst (λ w. AreKept new c.self.inside.index c.self.inside.count (reverse w.items)) (sym c.replace.ensures.after)
    (begun_kept events time (reverse numbers) groups new c.self.inside.index c.self.inside.count (reverse c.self.inside.walk.items)
    (awake_back events time groups numbers c.in_ok-numbers.ensures) (rewound_back numbers groups new rewound) c.self.invariant)

pub returns-clause-ok : goal.returns-clause-ok
returns-clause-ok g c =
    let events = c.args.events.now in
    let time = c.args.time in
    let groups = c.self.inside.groups in
    let new = c.rewind_each.new.groups in
    let numbers = c.in_ok-numbers.numbers.items in
    let rewound = subst (λ (l : List ℕ). AreRewound l groups new) c.as_slice.ensures.value c.rewind_each.ensures in
    subst₂ (IsAllBut (IsAsleep events time)) (ap (λ s. s.entries) c.self.view_is)
    (sym (ap (λ w. ahead_of new (reverse w.items)) c.replace.ensures.after ∙ rewound_ahead (reverse numbers) groups new (rewound_back numbers groups new rewound).after))
    (woken_all events time groups (reverse numbers) (awake_back events time groups numbers c.in_ok-numbers.ensures) c.self.invariant.apart)
