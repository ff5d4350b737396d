-- Chains of edges.
use Rattle.rank_check.proofs.Vocabulary.{◌≡◌, ℕ, zero, suc, ◌+◌, ◌≤◌, arith, refl, subst, NameId, EdgesLead, IsOnCycle, IsRank}

module _ (E : NameId → NameId → Type 0) where
  -- one chain after another
  joined : (m n : ℕ) (a b c : NameId) → EdgesLead E m a b → EdgesLead E n b c → (p : ℕ) × (p ≡ m + n) × EdgesLead E p a c
  joined m zero a b c first is = (m, omega arith, subst (λ (d : NameId). EdgesLead E m a d) is first)
  joined m (suc n) a b c first second =
      let more = joined m n a b second.0 first second.1 in
      (suc more.0, omega (arith, more.1), (second.0, more.2, second.2))

  -- a chain that returns can be walked again and again
  around : (k n : ℕ) (a : NameId) → EdgesLead E (suc k) a a → (m : ℕ) × (n ≤ m) × EdgesLead E m a a
  around k zero a cycle = (0, omega arith, refl)
  around k (suc n) a cycle =
      let before = around k n a cycle in
      let more = joined before.0 (suc k) a a a before.2 cycle in
      (more.0, omega (arith, before.1, more.1), more.2)

  pub no_rank : (a : NameId) (rank : ℕ) → IsRank E a rank → IsOnCycle E a → ⊥
  no_rank a rank is cycle =
      let long = around cycle.0 (suc rank) a cycle.1 in
      omega (arith, long.1, is.longest long.0 (a, long.2))

  pub one_rank : (a : NameId) (rank other : ℕ) → IsRank E a rank → IsRank E a other → rank ≡ other
  one_rank a rank other is also = omega (arith, is.longest other also.reached, also.longest rank is.reached)

  pub one_edge : (a b : NameId) → IsRank E b 0 → E a b → ⊥
  one_edge a b is edge = omega (arith, is.longest (suc zero) (a, (a, refl, edge)))

  pub one_more : (b : NameId) (rank : ℕ) → IsRank E b (suc rank) → (a : NameId) × E a b × IsRank E a rank
  one_more b rank is =
      let last = is.reached.1 in (
        last.0,
        last.2,
        record {
          reached = (is.reached.0, last.1);
          longest = λ k ends. let more = is.longest (suc k) (ends.0, (last.0, ends.1, last.2)) in omega arith;
        },
      )

  pub rises : (a b : NameId) (low high : ℕ) → E a b → IsRank E a low → IsRank E b high → suc low ≤ high
  rises a b low high edge is also = also.longest (suc low) (is.reached.0, (a, is.reached.1, edge))
