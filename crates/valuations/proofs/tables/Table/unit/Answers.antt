use Rattle.valuations.proofs.Vocabulary.{◌≡◌, ◌∙◌, ap, subst, sym, [], ◌∷◌, ◌++◌, length, arith, VarId, All-cons, All-nil, Relation, IsTable}
use Rattle.std.specs.List.Sorted.{IsStrictlySortedBy}
use Rattle.valuations.proofs.tables.Table.unit.Goals as goal

unit_is_table : IsTable (record { columns = []; rows = [] ∷ [] })
unfolding IsStrictlySortedBy
unit_is_table = record { distinct = tt; fits = All-cons (λ row. length row ≡ length {A = VarId} []) [] [] (omega arith) (All-nil _); rising = (tt, tt) }

made : (c : goal.After-new-2) → ◌≡◌ {A = Relation} (record { columns = c.new-2.result; rows = c.push.new.self.items }) (record { columns = []; rows = [] ∷ [] })
made c =
    let rows : c.push.new.self.items ≡ [] ∷ [] = c.in_ok-push.ensures.items ∙ ap (λ old. old ++ c.new.result ∷ []) c.new-rows.ensures.items ∙ ap (λ row. row ∷ []) c.new.ensures in
    λ i. record { columns = c.new-2.ensures i; rows = rows i }

pub invariant_of-result : goal.invariant_of-result
invariant_of-result c = subst IsTable (sym (made c)) unit_is_table

pub returns-clause-table : goal.returns-clause-table
returns-clause-table c = subst IsTable (sym (made c)) unit_is_table
