use Rattle.sleepers.proofs.Vocabulary.{ℕ, List, get_or, take, sym, subst, take_all, take_more, AreRewound}
use Rattle.sleepers.proofs.NotedGroupLemmas.{rewound_more, rewound_none}
use Rattle.sleepers.proofs.awake_groups.rewind_each.Goals as goal

pub loop-number-init : goal.loop-number-init
loop-number-init g c = rewound_none c.args.groups.now

pub loop-number-preserved : goal.loop-number-preserved
loop-number-preserved g c =
    let numbers = c.args.numbers.now in
    let i = c.loop-number.number-index in
    let first = c.args.groups.now in
    let new = c.rewind.new.self in
    subst (λ (l : List ℕ). AreRewound l first new) (sym (take_more numbers i 0 c.loop-number-test.true))
    (rewound_more (take i numbers) (get_or numbers i 0) first c.loop-number.groups new c.loop-number.invariant c.rewind.ensures.after c.rewind.ensures.entries c.rewind.ensures.others
    c.rewind.ensures.held)

pub returns : goal.returns
returns g c =
    subst (λ (l : List ℕ). AreRewound l c.args.groups.now c.loop-number.groups) (take_all c.loop-number.number-index c.args.numbers.now c.loop-number-test.false) c.loop-number.invariant
