-- A generated log that is given in pieces.
use Rattle.enf_run.proofs.Vocabulary.{◌≡◌, ℕ, ◌+◌, ◌<◌, ◌≤◌, List, [], ◌∷◌, ◌++◌, length, take, drop, sym, inl, ap, subst, ◌∙◌, append_assoc, length-append, length-drop, arith, Option}
use Rattle.enf_run.proofs.Vocabulary.{take-append-drop, Exchange, Gave, written_before, WriteRefusal, generated_line, generated_step, generated_text, sample_entries, text_begins, text_more}
use Rattle.enf_run.proofs.Vocabulary.{spelled_step, entry_names, System, cut_after, CutsText, AddsPart}
use Rattle.std.proofs.Common.{append-nil}
use Rattle.enf_run.proofs.GatheredPieces.{IsGathered}
use Rattle.enf_run.proofs.ExchangeLemmas.{gave_more}
use Rattle.enf_run.proofs.ReportLemmas.{not_empty}
use Rattle.enf_io.specs.declared.writing.WriteRefusal.TheVariants as writes

-- a line is not empty
line_some : (start made : ℕ) → 0 < length (generated_line start made)
line_some start made =
    let step = generated_step start made in
    omega (arith, length-append (spelled_step (entry_names sample_entries) System step.time step.events) (10 ∷ []))

module _ (start made : ℕ) (piece : List ℕ) (a b : Option Exchange) (h : IsGathered start made piece a b) where
  -- the line of one step more is gathered
  pub gathered_line : (s m : ℕ) (more : List ℕ) → s ≡ start → m ≡ made + 1 → more ≡ piece ++ generated_line s made → IsGathered start m more a b
  gathered_line s m more same next line =
      record {
        given = h.given;
        gave = h.gave;
        lines = ap (generated_text start) next ∙ text_more start made ∙ ap (λ t. t ++ generated_line start made) h.lines ∙ append_assoc h.given piece (generated_line start made)
            ∙ ap (λ t. h.given ++ t) (ap (λ n. piece ++ generated_line n made) (sym same) ∙ sym line);
      }

  module _ (bytes : List ℕ) (same : bytes ≡ piece) (c : Option Exchange) (gave : Gave bytes b c) where
    gave_lines : Gave (generated_text start made) a c
    gave_lines = subst (λ (t : List ℕ). Gave t a c) (ap (λ t. h.given ++ t) same ∙ sym h.lines) (gave_more h.given bytes a b c h.gave gave)

    -- what was gathered is given
    pub gathered_given : (empty : List ℕ) → empty ≡ [] → IsGathered start made empty a c
    gathered_given empty is =
        record { given = generated_text start made; gave = gave_lines; lines = sym (append-nil (generated_text start made)) ∙ ap (λ t. generated_text start made ++ t) (sym is) }

    -- and all steps were made
    pub gathered_whole : (steps : ℕ) → made ≡ steps → Gave (generated_text start steps) a c
    gathered_whole steps all = subst (λ (n : ℕ). Gave (generated_text start n) a c) all gave_lines

  -- not all steps were made: what was given until then is a front, and not the whole
  pub gathered_short : (steps : ℕ) → made < steps → AddsPart (generated_text start steps) a b
  gathered_short steps less =
      let line = generated_line start made in
      let tail = text_begins start (made + 1) steps (omega arith) in
      record {
        front = h.given;
        part = record {
          rest = piece ++ (line ++ tail.0);
          some = not_empty (piece ++ (line ++ tail.0)) (omega (arith, length-append piece (line ++ tail.0), length-append line tail.0, line_some start made));
          split = tail.1 ∙ ap (λ t. t ++ tail.0) (text_more start made) ∙ append_assoc (generated_text start made) line tail.0 ∙ ap (λ t. t ++ (line ++ tail.0)) h.lines
              ∙ append_assoc h.given piece (line ++ tail.0);
        };
        gave = h.gave;
      }

  -- some of the steps were made
  module _ (steps : ℕ) (within : made ≤ steps) where
    -- a part of what was gathered is given
    pub gathered_part : (count : ℕ) (c : Option Exchange) → count < length piece → Gave (take count piece) b c → AddsPart (generated_text start steps) a c
    gathered_part count c less gave =
        let tail = text_begins start made steps within in
        let piece_is : piece ≡ take count piece ++ drop count piece = sym (take-append-drop count piece) in
        record {
          front = h.given ++ take count piece;
          part = record {
            rest = drop count piece ++ tail.0;
            some = not_empty (drop count piece ++ tail.0) (omega (arith, length-append (drop count piece) tail.0, length-drop count piece, less));
            split = tail.1 ∙ ap (λ t. t ++ tail.0) (h.lines ∙ ap (λ t. h.given ++ t) piece_is ∙ sym (append_assoc h.given (take count piece) (drop count piece)))
                ∙ append_assoc (h.given ++ take count piece) (drop count piece) tail.0;
          };
          gave = gave_more h.given (take count piece) a b c h.gave gave;
        }

    cut_part : (why : WriteRefusal) (c : Option Exchange) → AddsPart (generated_text start steps) a c → CutsText (generated_text start steps) a c (cut_after why)
    cut_part (writes.WriteFault written) c part = part
    cut_part (writes.NoMemory written) c part = inl part

    -- so it is where a write was cut
    pub gathered_cut : (why : WriteRefusal) (bytes : List ℕ) (c : Option Exchange) → bytes ≡ piece
        → written_before why < length bytes → Gave (take (written_before why) bytes) b c
        → CutsText (generated_text start steps) a c (cut_after why)
    gathered_cut why bytes c same less gave =
        let count = written_before why in
        cut_part why c (gathered_part count c (omega (arith, ap length same, less)) (subst (λ (t : List ℕ). Gave (take count t) b c) same gave))
