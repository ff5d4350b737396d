use Rattle.sleepers.proofs.Vocabulary.{◌∷◌, ◌+◌, ap, arith, Contains, drop, later, length, subst, subst₂, sym, ◌∙◌, ArePlaced, entry_places, shown, IsContainedIn}
use Rattle.sleepers.specs.machine.Agendas.{IsGapFor}
use Rattle.sleepers.proofs.AgendaLemmas.{gap_among, gap_fits, gap_kept, gap_placed, own_there, put_is, searched}
use Rattle.std.proofs.lemmas.List.Edits.{length-insert}
use Rattle.sleepers.proofs.agenda.Agenda.put.Goals as goal

pub search-requires : goal.search-requires
search-requires g c =
    subst ArePlaced (sym (searched c.self.inside.entries.items c.as_slice.result.now c.self.inside.passed c.as_slice.ensures.value)) c.self.invariant.1

pub returns-in-Ok-clause-has : goal.returns-in-Ok-clause-has
returns-in-Ok-clause-has g c =
    let is = searched c.self.inside.entries.items c.as_slice.result.now c.self.inside.passed c.as_slice.ensures.value in
    own_there c.args.self.now c.args.entry.now c.requires
    (subst₂ (λ l p. Contains (entry_places l) p) (is ∙ c.self.view_is) c.as_slice-2.ensures c.in-Ok.ensures.found)

pub returns-in-Ok-clause-among : goal.returns-in-Ok-clause-among
returns-in-Ok-clause-among g c = λ x there. later x c.args.entry.now c.args.self.now there

pub returns-in_err-insert-in-Err-clause-among : goal.returns-in_err-insert-in-Err-clause-among
returns-in_err-insert-in-Err-clause-among g c = λ x there.
    let same = ap (λ l. drop c.self.inside.passed (shown l)) c.in_err-insert-in-Err.ensures.items in
    later x c.args.entry.now c.args.self.now (subst (λ l. Contains l x) (same ∙ c.self.view_is) there)

pub invariant_of-self-in-Err : goal.invariant_of-self-in-Err
invariant_of-self-in-Err g c =
    let items = c.self.inside.entries.items in
    let passed = c.self.inside.passed in
    let at = c.in-Err.at in
    let e = c.args.entry in
    let ahead = drop passed (shown items) in
    let gap = subst₂ (λ l p. IsGapFor p l at) (searched items c.as_slice.result.now passed c.as_slice.ensures.value) c.as_slice-2.ensures c.in-Err.ensures.free in
    let within = gap_fits items passed at c.self.invariant.0 gap.within in
    let are = c.in_ok-insert-in-Err.ensures.items in
    let new = ap (λ l. drop passed (shown l)) are ∙ put_is items passed at e within in (
      omega (arith, c.self.invariant.0, ap length are, length-insert items (passed + at) e within),
      subst ArePlaced (sym new) (gap_placed ahead at e.now c.self.invariant.1 gap),
    )

pub returns-in_ok-insert-in-Err-clause-kept : goal.returns-in_ok-insert-in-Err-clause-kept
returns-in_ok-insert-in-Err-clause-kept g c =
    let items = c.self.inside.entries.items in
    let passed = c.self.inside.passed in
    let at = c.in-Err.at in
    let e = c.args.entry in
    let ahead = drop passed (shown items) in
    let gap = subst₂ (λ l p. IsGapFor p l at) (searched items c.as_slice.result.now passed c.as_slice.ensures.value) c.as_slice-2.ensures c.in-Err.ensures.free in
    let new = ap (λ l. drop passed (shown l)) c.in_ok-insert-in-Err.ensures.items ∙ put_is items passed at e (gap_fits items passed at c.self.invariant.0 gap.within) in
    subst₂ (λ s n. IsContainedIn s n) c.self.view_is (sym new) (gap_kept ahead at e.now)

pub returns-in_ok-insert-in-Err-clause-among : goal.returns-in_ok-insert-in-Err-clause-among
returns-in_ok-insert-in-Err-clause-among g c =
    let items = c.self.inside.entries.items in
    let passed = c.self.inside.passed in
    let at = c.in-Err.at in
    let e = c.args.entry in
    let ahead = drop passed (shown items) in
    let gap = subst₂ (λ l p. IsGapFor p l at) (searched items c.as_slice.result.now passed c.as_slice.ensures.value) c.as_slice-2.ensures c.in-Err.ensures.free in
    let new = ap (λ l. drop passed (shown l)) c.in_ok-insert-in-Err.ensures.items ∙ put_is items passed at e (gap_fits items passed at c.self.invariant.0 gap.within) in
    subst₂ (λ s n. IsContainedIn n (e.now ∷ s)) c.self.view_is (sym new) (gap_among ahead at e.now)
