-- The lines of steps, and those of their actions, one step after another.
use Rattle.enf_run.proofs.Vocabulary.{none_more, one_more, ◌≡◌, ℕ, ◌+◌, ◌<◌, List, [], ◌∷◌, ◌++◌, refl, sym, ap, subst, ◌∙◌, append_assoc, inl, inr, length, length-append, map, take, drop, get_or}
use Rattle.enf_run.proofs.Vocabulary.{arith, ◌-◌, append-nil, map-append, take-append-drop, take_at, take_more, flat_map-append, flat_map-map, Gave, Stream, ActedStep, out_step, out_steps, acted_step}
use Rattle.enf_run.proofs.Vocabulary.{acted_steps, Rule, line_of, text_of, entry_names as names_of, NameEntry, Gains, IsFrontOfActions, SaysActions, SaysActionsInPart, joined_texts, Seen}
use Rattle.enf_run.proofs.Vocabulary.{action_lines, step_action_lines, faults_behind, CutsActions, CutsHanding, CutsSteps, GivesSteps, Cut, Exchange, Option}
use Rattle.enf_run.proofs.ExchangeLemmas.{gave_more, gave_none}
use Rattle.enf_run.proofs.TextLemmas.{Broken, Whole}
use Rattle.enforcer_core.specs.declared.steps.OutStep as made
use Rattle.enf_run.specs.declared.endings.Cut.TheVariants as cuts

-- ---- steps one after another

-- the first steps and one more
pub taken_next : (steps : List made.OutStep) (i : ℕ) (step : made.OutStep) → i < length steps → step
    ≡ get_or steps i step → acted_steps (take (i + 1) steps)
    ≡ acted_steps (take i steps) ++ acted_step step ∷ []
taken_next steps i step within is =
    let next : take (i + 1) steps ≡ take i steps ++ step ∷ [] = take_more steps i step within ∙ ap (λ (s : made.OutStep). take i steps ++ s ∷ []) (sym is) in
    ap acted_steps next ∙ map-append acted_step (take i steps) (step ∷ [])

-- steps, the one at a place, and those after it
pub split_at : (steps : List made.OutStep) (i : ℕ) (step : made.OutStep) → i < length steps → step
    ≡ get_or steps i step → acted_steps steps ≡ acted_steps (take i steps) ++ acted_step step ∷ acted_steps
    (drop (i + 1) steps)
split_at steps i step within is =
    ap acted_steps (sym (take-append-drop (i + 1) steps)) ∙ map-append acted_step (take (i + 1) steps)
    (drop (i + 1) steps) ∙ ap (λ (os : List ActedStep). os ++ acted_steps (drop (i + 1) steps))
    (taken_next steps i step within is)
    ∙ append_assoc (acted_steps (take i steps)) (acted_step step ∷ []) (acted_steps (drop (i + 1) steps))

-- ---- what a device gains

pub gains_none : (a : Stream) → Gains [] a a
gains_none a = record { gave = gave_none a.told; writes = refl; reads = refl }

pub gains_more : (xs ys : List ℕ) (a b c : Stream) → Gains xs a b → Gains ys b c → Gains (xs ++ ys) a c
gains_more xs ys a b c s t =
    record { gave = gave_more xs ys a.told b.told c.told s.gave t.gave; writes = t.writes ∙ s.writes; reads = t.reads ∙ s.reads }

-- of one text alone
gains_one : (xs : List ℕ) (a b : Stream) → Whole xs a b → Gains (xs ++ []) a b
gains_one xs a b w = subst (λ (t : List ℕ). Gains t a b) (sym (append-nil xs)) (record { gave = w.adds; writes = w.writes; reads = w.reads })

-- ---- the lines of steps and of those after them

pub lines_behind : (names : List (List ℕ)) (out more : List ActedStep) → text_of names (out_steps (out ++ more)) ≡ text_of names (out_steps out) ++ text_of names (out_steps more)
lines_behind names out more = ap (text_of names) (map-append out_step out more) ∙ flat_map-append (line_of names) (out_steps out) (out_steps more)

module _ (entries : List NameEntry) (rules : List Rule) where
  abbrev names : List (List ℕ)
  names = names_of entries

  abbrev lines : List ActedStep → List ℕ
  lines steps = text_of names (out_steps steps)

  abbrev said : List ActedStep → List ℕ
  said steps = action_lines entries rules steps

  actions_behind : (out more : List ActedStep) → said (out ++ more) ≡ said out ++ said more
  actions_behind out more = flat_map-append (step_action_lines entries rules) out more

  -- the actions of more steps were said
  pub says_more : (out more : List ActedStep) (a b c : Stream) → SaysActions entries rules out a b → SaysActions entries rules more b c → SaysActions entries rules (out ++ more) a c
  says_more out more a b c s t = subst (λ (text : List ℕ). Gains text a c) (sym (actions_behind out more)) (gains_more (said out) (said more) a b c s t)

  pub gives_none : (a : Seen) → GivesSteps entries rules [] a a
  gives_none a = record { lines = gains_none a.gate; actions = gains_none a.report }

  -- more steps were given
  pub gives_more : (out more : List ActedStep) (a b c : Seen) → GivesSteps entries rules out a b → GivesSteps entries rules more b c → GivesSteps entries rules (out ++ more) a c
  gives_more out more a b c s t =
      record {
        lines = subst (λ (text : List ℕ). Gains text a.gate c.gate) (sym (lines_behind names out more)) (gains_more (lines out) (lines more) a.gate b.gate c.gate s.lines t.lines);
        actions = says_more out more a.report b.report c.report s.actions t.actions;
      }

  -- one step was given
  pub gives_one : (step : ActedStep) (a b : Seen) → Whole (line_of names (out_step step)) a.gate b.gate
      → Whole (step_action_lines entries rules step) a.report b.report
      → GivesSteps entries rules (step ∷ []) a b
  gives_one step a b line actions = record {
    lines = gains_one (line_of names (out_step step)) a.gate b.gate line;
    actions = gains_one (step_action_lines entries rules step) a.report b.report actions;
  }

  module _ (out : List ActedStep) (step : ActedStep) (behind : List ActedStep) (cut : Cut) (a b c : Seen) (given : GivesSteps entries rules out a b) where
    -- after the steps that were given the line of one was cut
    pub cut_line : Broken (line_of names (out_step step)) cut b.gate c.gate → c.report ≡ b.report → CutsSteps entries rules (out ++ step ∷ behind) cut a c
    cut_line w same =
        inl (record {
          whole = out;
          next = step;
          behind = behind;
          split = refl;
          front = w.adds.front;
          part = w.adds.part;
          gave = gave_more (lines out) w.adds.front a.gate.told b.gate.told c.gate.told given.lines.gave w.adds.gave;
          writes = w.writes ∙ ap (faults_behind cut) given.lines.writes;
          reads = w.reads ∙ given.lines.reads;
          actions = subst (SaysActions entries rules out a.report) (sym same) given.actions;
        })

    -- or the lines of its actions
    pub cut_actions : Whole (line_of names (out_step step)) b.gate c.gate → c.gate.held ≡ 0 → Broken (step_action_lines entries rules step) cut b.report c.report
        → CutsSteps entries rules (out ++ step ∷ behind) cut a c
    cut_actions line handed w =
        inr (inl (record {
          first = out;
          last = step;
          behind = behind;
          split = sym (append_assoc out (step ∷ []) behind);
          lines = subst (λ (text : List ℕ). Gains text a.gate c.gate) (sym (lines_behind names out (step ∷ [])))
              (gains_more (lines out) (lines (step ∷ [])) a.gate b.gate c.gate given.lines (gains_one (line_of names (out_step step)) b.gate c.gate line));
          handed = handed;
          front = w.adds.front;
          part = w.adds.part;
          gave = gave_more (said out) w.adds.front a.report.told b.report.told c.report.told given.actions.gave w.adds.gave;
          writes = w.writes ∙ ap (faults_behind cut) given.actions.writes;
          reads = w.reads ∙ given.actions.reads;
        }))

    -- or before these, since what the gate held back was not handed on
    pub cut_handing : (m : Stream) → Whole (line_of names (out_step step)) b.gate m → c.gate.told ≡ m.told → 0 < c.gate.held
        → c.gate.write_faults ≡ faults_behind cut m.write_faults → c.gate.read_faults ≡ m.read_faults → c.report ≡ b.report
        → CutsSteps entries rules (out ++ step ∷ behind) cut a c
    cut_handing m line told held writes reads same =
        let gains : Gains (lines (out ++ step ∷ [])) a.gate m = subst (λ (text : List ℕ). Gains text a.gate m) (sym (lines_behind names out (step ∷ [])))
        (gains_more (lines out) (lines (step ∷ [])) a.gate b.gate m given.lines (gains_one (line_of names (out_step step)) b.gate m line)) in
        inr (inr (record {
          first = out;
          last = step;
          behind = behind;
          split = sym (append_assoc out (step ∷ []) behind);
          gave = subst (λ (o : Option Exchange). Gave (lines (out ++ step ∷ [])) a.gate.told o) (sym told) gains.gave;
          held = held;
          writes = writes ∙ ap (faults_behind cut) gains.writes;
          reads = reads ∙ gains.reads;
          actions = subst (SaysActions entries rules out a.report) (sym same) given.actions;
        }))

  -- ---- a front of what is said

  abbrev pieces : List ActedStep → List (List ℕ)
  pieces steps = map (step_action_lines entries rules) steps

  joined_pieces : (steps : List ActedStep) → joined_texts (pieces steps) ≡ said steps
  joined_pieces steps = flat_map-map (λ (piece : List ℕ). piece) (step_action_lines entries rules) steps

  pub all_said : (steps : List ActedStep) (a b : Stream) → SaysActions entries rules steps a b → SaysActionsInPart entries rules steps none_more a b
  all_said steps a b gains =
      let all : List (List ℕ) = pieces steps in
      let count : ℕ = length all - 1 in
      record {
        front = said steps;
        missing = [];
        is_front = record {
          split = joined_pieces steps ∙ sym (append-nil (said steps));
          of_last = joined_texts (drop count all);
          begins = sym (joined_pieces steps) ∙ ap joined_texts (sym (take-append-drop count all)) ∙ flat_map-append (λ (piece : List ℕ). piece) (take count all) (drop count all);
        };
        gave = gains.gave;
        writes = gains.writes;
        reads = gains.reads;
      }

  -- all pieces but the last
  but_last : (first : List ActedStep) (last : ActedStep) → joined_texts (take (length (pieces (first ++ last ∷ [])) - 1) (pieces (first ++ last ∷ []))) ≡ said first
  but_last first last =
      let is : pieces (first ++ last ∷ []) ≡ pieces first ++ step_action_lines entries rules last ∷ [] = map-append (step_action_lines entries rules) first (last ∷ []) in
      let count : length (pieces first) ≡ length (pieces (first ++ last ∷ [])) - 1 = omega (arith, ap length is, length-append (pieces first) (step_action_lines entries rules last ∷ [])) in
      ap joined_texts (ap (take (length (pieces (first ++ last ∷ [])) - 1)) is ∙ take_at (pieces first)
      (step_action_lines entries rules last ∷ []) (length (pieces (first ++ last ∷ [])) - 1) count) ∙
      joined_pieces first

  -- a front up to within the lines of the last step
  front_of : (first : List ActedStep) (last : ActedStep) (part rest : List ℕ)
      → step_action_lines entries rules last ≡ part ++ rest
      → IsFrontOfActions entries rules (first ++ last ∷ []) (said first ++ part) rest
  front_of first last part rest split =
      record {
        split = joined_pieces (first ++ last ∷ []) ∙ actions_behind first (last ∷ []) ∙ ap
            (λ (text : List ℕ). said first ++ text) (append-nil (step_action_lines entries rules last) ∙ split)
            ∙ sym (append_assoc (said first) part rest);
        of_last = part;
        begins = ap (λ (text : List ℕ). text ++ part) (sym (but_last first last));
      }

  module _ (out steps : List ActedStep) (cut : Cut) (a : Stream) (before after : Seen)
      (actions : SaysActions entries rules out a before.report)
      (c : CutsActions entries rules steps cut before after) where
    abbrev front : List ℕ
    front = said (out ++ c.first) ++ c.front

    pub is_front : IsFrontOfActions entries rules (out ++ (c.first ++ c.last ∷ [])) front c.part.rest
    is_front =
        subst (λ (all : List ActedStep). IsFrontOfActions entries rules all front c.part.rest)
        (append_assoc out c.first (c.last ∷ [])) (front_of (out ++ c.first) c.last c.front c.part.rest
        c.part.split)

    pub gave_front : Gave front a.told after.report.told
    gave_front =
        subst (λ (text : List ℕ). Gave text a.told after.report.told)
        (sym (append_assoc (said out) (said c.first) c.front) ∙ ap (λ (text : List ℕ). text ++ c.front)
        (sym (actions_behind out c.first)))
        (gave_more (said out) (said c.first ++ c.front) a.told before.report.told after.report.told actions.gave c.gave)

  -- the lines of the actions of the last of these steps are all missing
  pub said_but_last : (out steps : List ActedStep) (cut : Cut) (a : Stream) (before after : Seen)
      (actions : SaysActions entries rules out a before.report)
      (c : CutsHanding entries rules steps cut before after)
      → SaysActionsInPart entries rules (out ++ (c.first ++ c.last ∷ [])) none_more a after.report
  said_but_last out steps cut a before after actions c =
      let said_all = says_more out c.first a before.report after.report actions c.actions in
      record {
        front = said (out ++ c.first) ++ [];
        missing = step_action_lines entries rules c.last;
        is_front = subst (λ (all : List ActedStep). IsFrontOfActions entries rules all (said (out ++ c.first) ++ []) (step_action_lines entries rules c.last))
            (append_assoc out c.first (c.last ∷ [])) (front_of (out ++ c.first) c.last [] (step_action_lines entries rules c.last) refl);
        gave = subst (λ (text : List ℕ). Gave text a.told after.report.told) (sym (append-nil (said (out ++ c.first)))) said_all.gave;
        writes = said_all.writes;
        reads = said_all.reads;
      }

  -- a write to the report failed within the actions of the last of these steps
  abbrev pub fails_within : (out steps : List ActedStep) (a : Stream) (before after : Seen)
      (actions : SaysActions entries rules out a before.report)
      (c : CutsActions entries rules steps cuts.WriteFault before after)
      → SaysActionsInPart entries rules (out ++ (c.first ++ c.last ∷ [])) one_more a after.report
  fails_within out steps a before after actions c =
      record {
        front = said (out ++ c.first) ++ c.front;
        missing = c.part.rest;
        is_front = is_front out steps cuts.WriteFault a before after actions c;
        gave = gave_front out steps cuts.WriteFault a before after actions c;
        writes = c.writes ∙ ap (faults_behind cuts.WriteFault) actions.writes;
        reads = c.reads ∙ actions.reads;
      }

  -- or memory ran out there
  pub said_in_part : (out steps : List ActedStep) (a : Stream) (before after : Seen)
      (actions : SaysActions entries rules out a before.report)
      (c : CutsActions entries rules steps cuts.NoMemory before after)
      → SaysActionsInPart entries rules (out ++ (c.first ++ c.last ∷ [])) none_more a after.report
  said_in_part out steps a before after actions c =
      record {
        front = said (out ++ c.first) ++ c.front;
        missing = c.part.rest;
        is_front = is_front out steps cuts.NoMemory a before after actions c;
        gave = gave_front out steps cuts.NoMemory a before after actions c;
        writes = c.writes ∙ actions.writes;
        reads = c.reads ∙ actions.reads;
      }
