-- With more events, as many nodes are reached.
use Rattle.obligations.proofs.Vocabulary.{Event, NameId, Step, ⊎_elim, inl, inr, Plan, CausePlan, SuppressPlan, Both, Either, TestOr, Guarded, EventuallyPlan, AlwaysPlan, UntilPlan, NextPlan}
use Rattle.obligations.proofs.Vocabulary.{triggers, AreMetBy, last_events, IsReachedBy}
use Rattle.std.specs.Prelude.{List, Option, Contains, None, Some, ◌⊎◌}

-- where there are names, one of these has one of them
abbrev pub AreMetAtLast : List Step → Option (List NameId) → Type 0
AreMetAtLast trace = AreMetBy (last_events trace)

-- with more events, as much is reached
AreMetBy-wider : (events more : List Event) → ((event : Event) → Contains events event → Contains more event)
    → (names : Option (List NameId)) → AreMetBy events names → AreMetBy more names
AreMetBy-wider events more wider None met = tt
AreMetBy-wider events more wider (Some names) met = (met.0, wider met.0 met.1, met.2)

pub IsReachedBy-wider : (events more : List Event)
    → ((event : Event) → Contains events event → Contains more event)
    → (plan end : Plan) → IsReachedBy events plan end → IsReachedBy more plan end
IsReachedBy-wider events more wider (CausePlan node place name terms) end is = is
IsReachedBy-wider events more wider (SuppressPlan node place name terms) end is = is
IsReachedBy-wider events more wider (Both node left right) end is =
    ⊎_elim inl (λ sides. inr (⊎_elim (λ one. inl (IsReachedBy-wider events more wider left end one))
    (λ other. inr (IsReachedBy-wider events more wider right end other)) sides)) is
IsReachedBy-wider events more wider (Either node left right) end is =
    ⊎_elim inl (λ sides. inr (⊎_elim (λ one. inl (IsReachedBy-wider events more wider left end one))
    (λ other. inr (IsReachedBy-wider events more wider right end other)) sides)) is
IsReachedBy-wider events more wider (TestOr node guard test body) end is =
    ⊎_elim inl (λ deep. inr (IsReachedBy-wider events more wider body end deep)) is
IsReachedBy-wider events more wider (Guarded node xs guard test body) end is = ⊎_elim inl (λ deep. inr (
  AreMetBy-wider events more wider (triggers test) deep.0,
  IsReachedBy-wider events more wider body end deep.1,
)) is
IsReachedBy-wider events more wider (EventuallyPlan node place low high body) end is =
    ⊎_elim inl (λ deep. inr (IsReachedBy-wider events more wider body end deep)) is
IsReachedBy-wider events more wider (AlwaysPlan node place low high body) end is =
    ⊎_elim inl (λ deep. inr (IsReachedBy-wider events more wider body end deep)) is
IsReachedBy-wider events more wider (UntilPlan node place low high left right) end is =
    ⊎_elim inl (λ sides. inr (⊎_elim (λ one. inl (IsReachedBy-wider events more wider left end one))
    (λ other. inr (IsReachedBy-wider events more wider right end other)) sides)) is
IsReachedBy-wider events more wider (NextPlan node place high body) end is =
    ⊎_elim inl (λ deep. inr (IsReachedBy-wider events more wider body end deep)) is
