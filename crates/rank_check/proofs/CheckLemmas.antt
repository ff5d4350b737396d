-- What is known of a table of edges holds of the edges of the plans, and the answers of the parts are those of the whole.
use Rattle.rank_check.proofs.Vocabulary.{◌↔◌, ℕ, zero, suc, NameId, EdgesLead, IsOnCycle, IsRank, IsFirstName}

leads : (E F : NameId → NameId → Type 0) → ((a b : NameId) → E a b → F a b) → (k : ℕ) (a b : NameId) → EdgesLead E k a b → EdgesLead F k a b
leads E F there zero a b is = is
leads E F there (suc k) a b is = (is.0, leads E F there k a is.0 is.1, there is.0 b is.2)

module _ (E F : NameId → NameId → Type 0) (same : (a b : NameId) → E a b ↔ F a b) where
  pub cycle_there : (name : NameId) → IsOnCycle E name → IsOnCycle F name
  cycle_there name is = (is.0, leads E F (λ a b. (same a b).0) (suc is.0) name name is.1)

  pub cycle_back : (name : NameId) → IsOnCycle F name → IsOnCycle E name
  cycle_back name is = (is.0, leads F E (λ a b. (same a b).1) (suc is.0) name name is.1)

  pub rank_there : (name : NameId) (rank : ℕ) → IsRank E name rank → IsRank F name rank
  rank_there name rank is = record {
    reached = (is.reached.0, leads E F (λ a b. (same a b).0) rank is.reached.0 name is.reached.1);
    longest = λ k ends. is.longest k (ends.0, leads F E (λ a b. (same a b).1) k ends.0 name ends.1);
  }

  pub first_there : (name : NameId) → IsFirstName (IsOnCycle E) name → IsFirstName (IsOnCycle F) name
  first_there name is = record {
    has = cycle_there name is.has;
    first = λ other on. is.first other (cycle_back other on);
  }
