-- Edges that are put in wherever a chain of edges leads.
use Rattle.rank_check.proofs.Vocabulary.{◌≡◌, ◌⊎◌, ℕ, zero, suc, ◌+◌, ◌<◌, ◌≤◌, sym, subst, inl, inr, ⊎_elim, arith, ◌∙◌, cases_lt, NameId, same_name, EdgesLead, Reaches, EdgeTable, AddsEdges}
use Rattle.rank_check.proofs.Vocabulary.{IsClosure, HasEdge}

-- what is below the next number is below this one, or there
pub below_or_there : (name there : NameId) → name.0 < there.0 + 1 → (name.0 < there.0) ⊎ (there ≡ name)
below_or_there name there below = ⊎_elim (λ (less : name.0 < there.0). inl less) (λ (more : there.0 ≤ name.0). inr (same_name there name (omega arith))) (cases_lt name.0 there.0)

-- the edges that are put in from one name, to names below n
abbrev pub On : EdgeTable → NameId → NameId → ℕ → NameId → NameId → Type 0
On table from between n a b = (from ≡ a) × (b.0 < n) × HasEdge table between b

-- the edges that are put in through a name, from names below n
abbrev pub Through : EdgeTable → NameId → ℕ → NameId → NameId → Type 0
Through table between n a b = (a.0 < n) × HasEdge table a between × HasEdge table between b

reach_on : (E : NameId → NameId → Type 0) (a b c : NameId) → Reaches E a b → (k : ℕ) → EdgesLead E (suc k) b c → Reaches E a c
reach_on E a b c first zero second = (suc first.0, (b, first.1, subst (λ (n : NameId). E n c) (sym second.1) second.2))
reach_on E a b c first (suc k) second =
    let more = reach_on E a b second.0 first k second.1 in
    (suc more.0, (second.0, more.1, second.2))

-- edges wherever a chain leads that passes only through names below n
pub record IsClosing (edges : EdgeTable) (n : ℕ) (now : EdgeTable) : Type 0 where
  pub width : now.width ≡ edges.width
  pub contains : (a b : NameId) → HasEdge edges a b → HasEdge now a b
  pub only : (a b : NameId) → HasEdge now a b → Reaches (HasEdge edges) a b
  pub closed : (x a b : NameId) → x.0 < n → HasEdge now a x → HasEdge now x b → HasEdge now a b

module _ (edges now next : EdgeTable) (m : NameId) where
  closed_more : IsClosing edges m.0 now → AddsEdges (λ a b. HasEdge now a m × HasEdge now m b) now next → (x a b : NameId) → x.0 < m.0 + 1 → HasEdge next a x → HasEdge next x b → HasEdge next a b
  closed_more is adds x a b below first second =
      let through : HasEdge now a m → HasEdge now m b → HasEdge next a b = λ f s. adds.added a b f.0 s.1 (f, s) in
      let below_it : x.0 < m.0 → HasEdge next a b = λ less. ⊎_elim
      (λ (ax : HasEdge now a x). ⊎_elim (λ (xb : HasEdge now x b). adds.kept a b (is.closed x a b less ax xb))
      (λ (p : HasEdge now x m × HasEdge now m b). through (is.closed x a m less ax p.0) p.1) (adds.only x b second))
      (λ (p : HasEdge now a m × HasEdge now m x). ⊎_elim (λ (xb : HasEdge now x b). through p.0 (is.closed x m b less p.1 xb))
      (λ (q : HasEdge now x m × HasEdge now m b). through p.0 q.1) (adds.only x b second))
      (adds.only a x first) in
      let at_it : m ≡ x → HasEdge next a b = λ there. through
      (⊎_elim (λ (j : HasEdge now a m). j) (λ (p : HasEdge now a m × HasEdge now m m). p.0) (adds.only a m (subst (λ (n : NameId). HasEdge next a n) (sym there) first)))
      (⊎_elim (λ (j : HasEdge now m b). j) (λ (p : HasEdge now m m × HasEdge now m b). p.1) (adds.only m b (subst (λ (n : NameId). HasEdge next n b) (sym there) second))) in
      ⊎_elim below_it at_it (below_or_there x m below)

  pub closing_more : IsClosing edges m.0 now → AddsEdges (λ a b. HasEdge now a m × HasEdge now m b) now next → IsClosing edges (m.0 + 1) next
  closing_more is adds = record {
    width = adds.width ∙ is.width;
    contains = λ a b j. adds.kept a b (is.contains a b j);
    only = λ a b j. ⊎_elim (λ (before : HasEdge now a b). is.only a b before) (λ (p : HasEdge now a m × HasEdge now m b). let second = is.only m b p.1 in reach_on (HasEdge edges) a m
        b (is.only a m p.0) second.0 second.1) (adds.only a b j);
    closed = closed_more is adds;
  }

along : (edges now : EdgeTable) (n : ℕ) → edges.width ≤ n → IsClosing edges n now → (k : ℕ) (a b : NameId) → EdgesLead (HasEdge edges) (suc k) a b → HasEdge now a b
along edges now n whole is zero a b leads = is.contains a b (subst (λ (x : NameId). HasEdge edges x b) (sym leads.1) leads.2)
along edges now n whole is (suc k) a b leads =
    let below : leads.0.0 < edges.width = leads.2.0 in
    is.closed leads.0 a b (omega (arith, below, whole)) (along edges now n whole is k a leads.0 leads.1) (is.contains leads.0 b leads.2)

pub closing_all : (edges now : EdgeTable) (n : ℕ) → edges.width ≤ n → IsClosing edges n now → IsClosure edges now
closing_all edges now n whole is = record {
  width = is.width;
  only = is.only;
  all = λ a b reaches. along edges now n whole is reaches.0 a b reaches.1;
}
