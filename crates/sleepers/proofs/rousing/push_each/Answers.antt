use Rattle.sleepers.proofs.Vocabulary.{ℕ, List, Contains, inl, inr, ⊎_elim, sym, subst, get_or, get_or_default, none_in_nil, take_all, entries_at}
use Rattle.sleepers.proofs.LoopLemmas.{in_next}
use Rattle.sleepers.proofs.rousing.push_each.Goals as goal

pub loop-number-init : goal.loop-number-init
loop-number-init g c = record { among = c.requires.among; all = λ number x there among. absurd (none_in_nil number there) }

pub loop-number-preserved : goal.loop-number-preserved
loop-number-preserved g c =
    let pushed = c.in_ok-push_roused.ensures in
    let numbers = c.args.numbers.now in
    let i = c.loop-number.number-index in
    let next = get_or numbers i 0 in
    record {
      among = pushed.among;
      all = λ number x there among. ⊎_elim
          (λ on. ⊎_elim (λ is. inl (pushed.kept x is)) (λ leaves. inr leaves) (c.loop-number.invariant.all number x on among))
          (λ same. pushed.all x (subst (λ (n : ℕ). Contains (entries_at c.args.groups.now n) x) (sym same) among))
          (in_next numbers i next number c.loop-number-test.true (get_or_default numbers i 0 next c.loop-number-test.true) there);
    }

pub returns-clause-all : goal.returns-clause-all
returns-clause-all g c = λ number x there among.
    c.loop-number.invariant.all number x
    (subst (λ (l : List ℕ). Contains l number) (sym (take_all c.loop-number.number-index c.args.numbers.now c.loop-number-test.false)) there) among

pub push_roused-requires-clause-alike : goal.push_roused-requires-clause-alike
push_roused-requires-clause-alike g c = c.requires.alike (get_or c.args.numbers.now c.loop-number.number-index 0)
