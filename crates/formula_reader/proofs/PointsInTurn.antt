-- Points that are passed in turn: of two operands, and of a quantifier's variables and its formula.
use Rattle.formula_reader.proofs.Vocabulary.{◌≡◌, ◌++◌, ◌∷◌, [], ℕ, List, length, take, Option, None, Some, Result, Ok, Err, sym, refl, ap, ◌∙◌, append_assoc, take-append_seam, VariableSorts}
use Rattle.formula_reader.proofs.Vocabulary.{BindsQuantified, PassesPoints, IsRefusedPass, pass, passed_on, points_of_both, points_of_bound, both_in, body_in, sorts_behind, known_in, Point, points}
use Rattle.formula_reader.proofs.Vocabulary.{binder_points, bound_names, binding_names, bound_variables_from, formula_in, point_refusal, PolicyRefusal, Variables, Binding, SyntaxTree, NameEntry}
use Rattle.enf_formula.specs.meaning.Satisfaction as tree

goes_on : (refusal : Option PolicyRefusal) (rest whole other : Result VariableSorts PolicyRefusal) (sorts : VariableSorts)
    → passed_on refusal rest ≡ Ok sorts → (rest ≡ Ok sorts → whole ≡ other) → passed_on refusal whole ≡ other
goes_on None rest whole other sorts e f = f e
goes_on (Some refusal) rest whole other sorts e f = cc

stops : (first : Option PolicyRefusal) (rest whole : Result VariableSorts PolicyRefusal) (refusal : PolicyRefusal)
    → passed_on first rest ≡ Err refusal → (rest ≡ Err refusal → whole ≡ Err refusal) → passed_on first whole ≡ Err refusal
stops None rest whole refusal e f = f e
stops (Some first) rest whole refusal e f = e

-- what is passed in front of other points
pub pass-append_ok : (entries : List NameEntry) (before after : VariableSorts) (front back : List Point)
    → pass entries before front ≡ Ok after → pass entries before (front ++ back) ≡ pass entries after back
pass-append_ok entries before after [] back e = let h : before ≡ after = cc in ap (λ (s : VariableSorts). pass entries s back) h
pass-append_ok entries before after (point ∷ front) back e =
    goes_on (point_refusal entries (known_in before) point) _ _ _ after e (pass-append_ok entries (sorts_behind before point) after front back)

-- a refusal in front of other points
pub pass-append_err : (entries : List NameEntry) (before : VariableSorts) (front back : List Point) (refusal : PolicyRefusal)
    → pass entries before front ≡ Err refusal → pass entries before (front ++ back) ≡ Err refusal
pass-append_err entries before [] back refusal e = cc
pass-append_err entries before (point ∷ front) back refusal e =
    stops (point_refusal entries (known_in before) point) _ _ refusal e (pass-append_err entries (sorts_behind before point) front back refusal)

-- two operands in turn
pub both_passes : (entries : List NameEntry) (a b c : Variables) (f g : SyntaxTree)
    → PassesPoints entries a b (points entries a.names.items a.scope.items f) (bound_names f)
    → PassesPoints entries b c (points entries b.names.items b.scope.items g) (bound_names g)
    → PassesPoints entries a c (points_of_both entries a f g) (bound_names f ++ bound_names g)
both_passes entries a b c f g l r = record {
  sorts =
      let second : pass entries b.sorts.items (points entries (a.names.items ++ bound_names f) a.scope.items g) ≡ Ok c.sorts.items =
      rw (← l.names, ← l.scope) r.sorts in
      pass-append_ok entries a.sorts.items b.sorts.items (points entries a.names.items a.scope.items f) (points entries (a.names.items ++ bound_names f) a.scope.items g) l.sorts ∙ second;
  names = r.names ∙ ap (λ (ns : List (List ℕ)). ns ++ bound_names g) l.names ∙ append_assoc a.names.items (bound_names f) (bound_names g);
  scope = r.scope ∙ l.scope;
}

-- the left operand is refused
pub left_refuses : (entries : List NameEntry) (a : Variables) (f g : SyntaxTree) (refusal : PolicyRefusal)
    → IsRefusedPass refusal (pass entries a.sorts.items (points entries a.names.items a.scope.items f))
    → IsRefusedPass refusal (pass entries a.sorts.items (points_of_both entries a f g))
left_refuses entries a f g refusal h = record {
  else = λ n. pass-append_err entries a.sorts.items (points entries a.names.items a.scope.items f)
      (points entries (a.names.items ++ bound_names f) a.scope.items g) refusal (h.else n);
}

-- the right operand is refused
pub right_refuses : (entries : List NameEntry) (a b : Variables) (f g : SyntaxTree) (refusal : PolicyRefusal)
    → PassesPoints entries a b (points entries a.names.items a.scope.items f) (bound_names f)
    → IsRefusedPass refusal (pass entries b.sorts.items (points entries b.names.items b.scope.items g))
    → IsRefusedPass refusal (pass entries a.sorts.items (points_of_both entries a f g))
right_refuses entries a b f g refusal l h = record {
  else = λ n.
      let second : pass entries b.sorts.items (points entries (a.names.items ++ bound_names f) a.scope.items g) ≡ Err refusal =
      rw (← l.names, ← l.scope) (h.else n) in
      pass-append_ok entries a.sorts.items b.sorts.items (points entries a.names.items a.scope.items f) (points entries (a.names.items ++ bound_names f) a.scope.items g) l.sorts ∙ second;
}

-- both operands under a signature
pub both_resolved : (entries : List NameEntry) (a b : Variables) (f g : SyntaxTree) (p q : tree.Formula)
    → PassesPoints entries a b (points entries a.names.items a.scope.items f) (bound_names f)
    → formula_in entries a.names.items a.scope.items f ≡ Some p
    → formula_in entries b.names.items b.scope.items g ≡ Some q
    → both_in entries a f g ≡ Some (p, q)
both_resolved entries a b f g p q l e h =
    let second : formula_in entries (a.names.items ++ bound_names f) a.scope.items g ≡ Some q = rw (← l.names, ← l.scope) h in
    rw (e, second) refl

-- the variables of a quantifier, and then its formula; after it they are out of scope
pub bound_passes : (entries : List NameEntry) (a b c d : Variables) (xs : List Binding) (f : SyntaxTree)
    → BindsQuantified entries a b xs
    → PassesPoints entries b c (points entries b.names.items b.scope.items f) (bound_names f)
    → d.sorts.items ≡ c.sorts.items → d.names.items ≡ c.names.items → d.scope.items ≡ take (length a.scope.items) c.scope.items
    → PassesPoints entries a d (points_of_bound entries a xs f) (binding_names xs ++ bound_names f)
bound_passes entries a b c d xs f l r sorts names scope = record {
  sorts =
      let second : pass entries b.sorts.items (points entries (a.names.items ++ binding_names xs) (a.scope.items ++ bound_variables_from (length a.names.items) xs) f) ≡ Ok c.sorts.items =
      rw (← l.names, ← l.scope) r.sorts in
      pass-append_ok entries a.sorts.items b.sorts.items (binder_points a.names.items a.scope.items xs)
      (points entries (a.names.items ++ binding_names xs) (a.scope.items ++ bound_variables_from (length a.names.items) xs) f) l.sorts ∙ second ∙ ap Ok (sym sorts);
  names = names ∙ r.names ∙ ap (λ (ns : List (List ℕ)). ns ++ bound_names f) l.names ∙ append_assoc a.names.items (binding_names xs) (bound_names f);
  scope = scope ∙ ap (take (length a.scope.items)) (r.scope ∙ l.scope) ∙ take-append_seam a.scope.items (bound_variables_from (length a.names.items) xs);
}

-- a variable of the quantifier is refused
pub binder_refuses : (entries : List NameEntry) (a : Variables) (xs : List Binding) (f : SyntaxTree) (refusal : PolicyRefusal)
    → IsRefusedPass refusal (pass entries a.sorts.items (binder_points a.names.items a.scope.items xs))
    → IsRefusedPass refusal (pass entries a.sorts.items (points_of_bound entries a xs f))
binder_refuses entries a xs f refusal h = record {
  else = λ n. pass-append_err entries a.sorts.items (binder_points a.names.items a.scope.items xs)
      (points entries (a.names.items ++ binding_names xs) (a.scope.items ++ bound_variables_from (length a.names.items) xs) f) refusal (h.else n);
}

-- the formula of the quantifier is refused
pub body_refuses : (entries : List NameEntry) (a b : Variables) (xs : List Binding) (f : SyntaxTree) (refusal : PolicyRefusal)
    → BindsQuantified entries a b xs
    → IsRefusedPass refusal (pass entries b.sorts.items (points entries b.names.items b.scope.items f))
    → IsRefusedPass refusal (pass entries a.sorts.items (points_of_bound entries a xs f))
body_refuses entries a b xs f refusal l h = record {
  else = λ n.
      let second : pass entries b.sorts.items (points entries (a.names.items ++ binding_names xs) (a.scope.items ++ bound_variables_from (length a.names.items) xs) f) ≡ Err refusal =
      rw (← l.names, ← l.scope) (h.else n) in
      pass-append_ok entries a.sorts.items b.sorts.items (binder_points a.names.items a.scope.items xs)
      (points entries (a.names.items ++ binding_names xs) (a.scope.items ++ bound_variables_from (length a.names.items) xs) f) l.sorts ∙ second;
}

-- the formula of the quantifier under a signature
pub body_resolved : (entries : List NameEntry) (a b : Variables) (xs : List Binding) (f : SyntaxTree) (p : tree.Formula)
    → BindsQuantified entries a b xs
    → formula_in entries b.names.items b.scope.items f ≡ Some p
    → body_in entries a xs f ≡ Some p
body_resolved entries a b xs f p l h = rw (← l.names, ← l.scope) h

pub ruleset both_operands = (both_passes, left_refuses, right_refuses, both_resolved)

pub ruleset bound_operand = (bound_passes, binder_refuses, body_refuses, body_resolved)
