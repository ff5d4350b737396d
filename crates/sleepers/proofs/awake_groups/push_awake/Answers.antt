use Rattle.sleepers.proofs.Vocabulary.{List, Contains, Event, inl, inr, ⊎_elim, sym, subst}
use Rattle.sleepers.proofs.EachEventLemmas.{asleep_leaves, by_more}
use Rattle.sleepers.proofs.RousedLemmas.{rouses_found}
use Rattle.sleepers.proofs.awake_groups.push_awake.Goals as goal

pub returns : goal.returns
returns g c = λ events told on was.
    let event = c.args.event.now in
    let groups = c.args.groups.now in
    let found = c.as_slice.result.now in
    let pushed = c.in_ok-push_awake_of.ensures in
    by_more c.args.time events groups event told c.args.numbers.now.items c.push_awake_of.new.numbers.items on pushed.kept pushed.awake
    (λ n x there. ⊎_elim
    (λ among. ⊎_elim (λ is. inl is) (λ stands. inr (asleep_leaves c.args.time event x (stands x there))) (pushed.looked n among))
    (λ leaves. inr leaves)
    (rouses_found event groups c.args.index.now found c.requires.noted c.requires.begun (λ group pattern is e there matches.
    subst (λ l. Contains l group) (sym c.as_slice.ensures.value)
    (c.in_ok-find_each.ensures.ok group pattern is e (subst (λ (l : List Event). Contains l e) (sym c.from_ref.ensures.value) there) matches)) n x there))
    was

pub push_awake_of-requires : goal.push_awake_of-requires
push_awake_of-requires g c = c.requires.noted.alike
