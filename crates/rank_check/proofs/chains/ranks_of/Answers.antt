use Rattle.rank_check.proofs.Vocabulary.{◌≡◌, ℕ, zero, suc, ◌+◌, ◌≤◌, List, ◌++◌, length, replicate, take, drop, arith, refl, sym, ap, subst, ◌∙◌, length-replicate, NameId, IsOnCycle, IsRank}
use Rattle.rank_check.proofs.Vocabulary.{IsRankWithin, HasEdge, EdgeTable, greatest, rank_in}
use Rattle.rank_check.proofs.RankLemmas.{is_rank, none_longer, ranks_small, short, within_none, written, zeros}
use Rattle.rank_check.proofs.chains.ranks_of.Goals as goal

-- what a caller reads off the last round
small : (edges : EdgeTable) → ((name : NameId) → IsOnCycle (HasEdge edges) name → ⊥) → (most : ℕ) (ranks : List ℕ)
    → ((name : NameId) → IsRankWithin (HasEdge edges) most name (rank_in ranks name)) → greatest ranks ≤ edges.width
small edges acyclic most ranks within = ranks_small (HasEdge edges) edges.width (λ a b joins. (joins.0, joins.1)) acyclic ranks (λ name. (within name).reached)

pub loop-most-init : goal.loop-most-init
loop-most-init c =
    let all : c.in_ok-ranks.ranks.items ≡ replicate c.names.result zero = c.in_ok-ranks.ensures.items_if_clones_equal (λ y same. same) in
    record {
      count = ap length all ∙ length-replicate c.names.result zero ∙ c.names.ensures;
      within = λ name. subst (IsRankWithin (HasEdge c.args.edges.now) 0 name) (sym (ap (λ (xs : List ℕ). rank_in xs name) all ∙ zeros c.names.result name.0))
          (within_none (HasEdge c.args.edges.now) name);
    }

pub raise-requires-clause-within : goal.raise-requires-clause-within
raise-requires-clause-within c = λ name. subst (λ (xs : List ℕ). IsRankWithin (HasEdge c.args.edges.now) c.loop-most.most name (rank_in xs name)) (sym c.as_mut_slice.ensures.value)
    (c.loop-most.invariant.within name)

pub loop-most-preserved : goal.loop-most-preserved
loop-most-preserved c =
    let new = c.raise.new.ranks in
    let items : take c.loop-most.ranks.len (new ++ drop (length new) c.loop-most.ranks.items) ≡ new = written c.loop-most.ranks.len new (drop (length new) c.loop-most.ranks.items) (omega arith) in
    let one : suc c.loop-most.most ≡ c.loop-most.most + 1 = omega arith in
    record {
      count = rw items (omega arith);
      within = λ name. subst (λ (xs : List ℕ). IsRankWithin (HasEdge c.args.edges.now) (c.loop-most.most + 1) name (rank_in xs name)) (sym items)
          (subst (λ (n : ℕ). IsRankWithin (HasEdge c.args.edges.now) n name (rank_in new name)) one (c.raise.ensures.within name));
    }

pub returns-then-not-raise-clause-ranks : goal.returns-then-not-raise-clause-ranks
returns-then-not-raise-clause-ranks c = λ name.
    let E = HasEdge c.args.edges.now in
    let new = c.raise.new.ranks in
    let items : take c.loop-most.ranks.len (new ++ drop (length new) c.loop-most.ranks.items) ≡ new = written c.loop-most.ranks.len new (drop (length new) c.loop-most.ranks.items) (omega arith) in
    subst (λ (xs : List ℕ). IsRank E name (rank_in xs name)) (sym items)
    (is_rank E (suc c.loop-most.most) name (rank_in new name) (c.raise.ensures.within name) (none_longer E c.loop-most.most name (c.if-not-raise.ensures.none refl name)))

pub returns-then-not-raise-clause-small : goal.returns-then-not-raise-clause-small
returns-then-not-raise-clause-small c =
    let new = c.raise.new.ranks in
    let items : take c.loop-most.ranks.len (new ++ drop (length new) c.loop-most.ranks.items) ≡ new = written c.loop-most.ranks.len new (drop (length new) c.loop-most.ranks.items) (omega arith) in
    subst (λ (xs : List ℕ). greatest xs ≤ c.args.edges.now.width) (sym items) (small c.args.edges.now c.requires (suc c.loop-most.most) new c.raise.ensures.within)

pub returns-clause-ranks : goal.returns-clause-ranks
returns-clause-ranks c = λ name.
    let E = HasEdge c.args.edges.now in
    is_rank E c.loop-most.most name (rank_in c.loop-most.ranks.items name) (c.loop-most.invariant.within name)
    (λ k ends. let low : k ≤ c.args.edges.now.width = short E c.args.edges.now.width (λ a b joins. (joins.0, joins.1)) c.requires k name ends in omega arith)

pub returns-clause-small : goal.returns-clause-small
returns-clause-small c = small c.args.edges.now c.requires c.loop-most.most c.loop-most.ranks.items c.loop-most.invariant.within
