-- The three words of `Nodes`, by value, after a `&mut` and after a `&`, at any element type. Assumes `Logic`.
-- nodes_made, nodes_opens, nodes_closes      the three words by value, and after a `&mut`
-- append_out      two rows of nodes, where they are one
-- says_both      an `ensures` of two facts
-- nodes_seen      [`head`; `tail`; `len`; the elements; the pointers], after a `&`
use Rattle.cursor_list.proofs.Vocabulary.{◌≡◌, refl, ◌∙◌, ℕ, ◌+◌, ◌^◌, arith, List, [], ◌∷◌, ◌++◌, length, Ura, full_share, Gv, w64, Val, vint, vstruct, of_list, Lft, GName, Share, flft, fobs, fauth}
use Rattle.cursor_list.proofs.Vocabulary.{fbor, fobor, SProp, ent, emp, sep, via, fact, fact_i, Logic, sem, Item, Goal, Seq, Step, Soaks, step, prop, ‵, raw, ◌⊛◌, ◌$◌, ◌∵◌, !, qed, use0, use1, use2}
use Rattle.cursor_list.proofs.Vocabulary.{split, frame, done, move, drop, fsplit, fsplit3, fjoin, fpick, fpack, feq_i, feq_l, flt_i, flt_l, rewrite, Body as Borrowed, RattleType, Valss, usize}
use Rattle.cursor_list.proofs.Vocabulary.{cell_at, mem, hidden_shr, RawPtr, ptr_val, unhide, hide, nothing, opens, closes, within, Owning, shape, Bx, X, R, P, Link, links_of, elem_places, links_lent}
use Rattle.cursor_list.proofs.Vocabulary.{spread_lent, words, Hd, Held, One, cons_out, cons_in, Nodes}
use Rattle.cursor_list.specs.contracts.nodes.Nodes as N

module _ (E : Bx) where
  abbrev pub D : Type 0
  D = Nodes (X E) (Hd E)

  abbrev pub owning : Owning
  owning = N.the_type (R E) (P E) E.al.g

  abbrev pub Nr : RattleType
  Nr = N.the_row (R E) (P E) E.al.g

module _ (E : Bx) {M : Type 1} {𝓤 : Ura M} {𝓛 : Logic 𝓤} {K : Type 0} {Γ : List (Item 𝓤)} {G : Goal 𝓤 𝓛.H} where
  nodes_had : K → (d : D E) (vs : List Val) → (vs ≡ words d.head d.tail d.len ∷ [] → Seq K 𝓛 (‵ (Held E d.blocks d.items) ∷ Γ) G) → Seq K 𝓛 (‵ ((Nr E).own_val d vs) ∷ Γ) G
  nodes_had t d vs k =
      fsplit t $ fpick t (λ vss. fsplit t $ feq_l t (λ all. fsplit t $ feq_l t (λ e₀. fsplit t $ feq_l t (λ e₁. fsplit t $ fsplit t $ feq_l t (λ e₂. flt_l t (λ fn. drop t $
      k (all ∙ (λ i. vstruct (of_list (e₀ i ++ (e₁ i ++ (e₂ i ++ [])))) ∷ []))))))))

  pub nodes_made : K → (d : D E) → Step K 𝓛 (‵ ((Nr E).own_val d (words d.head d.tail d.len ∷ [])) ∷ Γ) G (‵ (Held E d.blocks d.items) ∷ Γ) G
  nodes_made t d = step (λ s.
      let v = words d.head d.tail d.len in
      let small = d.small in
      nothing t $ flt_i t d.len (2 ^ 64) (omega arith) $ feq_i t (List Val) (vint w64 d.len ∷ []) (vint w64 d.len ∷ []) refl $ fjoin t $ fjoin t $
      feq_i t (List Val) (ptr_val d.tail ∷ []) (ptr_val d.tail ∷ []) refl $ fjoin t $ feq_i t (List Val) (ptr_val d.head ∷ []) (ptr_val d.head ∷ []) refl $ fjoin t $
      feq_i t (List Val) (v ∷ []) (v ∷ []) refl $ fjoin t $
      fpack t (Valss (shape (owning E)).fields) (within (shape (owning E)) (d.head, (d.tail, (d.len, tt))) (v ∷ []))
      (ptr_val d.head ∷ [], (ptr_val d.tail ∷ [], (vint w64 d.len ∷ [], tt))) $ fjoin t $ s)

module _ (E : Bx) {M : Type 1} {𝓤 : Ura M} {𝓛 : Logic 𝓤} {K : Type 0} {Γ : List (Item 𝓤)} {G : Goal 𝓤 𝓛.H} where
  -- [the nodes; the words; the open borrow; obs; auth]
  pub nodes_opens : K → Soaks G → {κ : Lft} {q : Share} {γ : GName} (d : D E) (rb ro : ℕ)
      → Step K 𝓛 (‵ (Held E d.blocks d.items) ∷ ‵ (cell_at full_share (Nr E).mir (words d.head d.tail d.len ∷ []) rb ro) ∷ ‵ (fobor κ q (Borrowed (mem (Nr E)) rb ro γ))
      ∷ ‵ (fobs γ ((Nr E).coded.code d)) ∷ ‵ (fauth γ ((Nr E).coded.code d)) ∷ Γ) G
      (‵ (fobs γ ((Nr E).coded.code d)) ∷ ‵ (fbor κ (Borrowed (mem (Nr E)) rb ro γ)) ∷ ‵ (flft κ q) ∷ Γ) G
  nodes_opens t z d rb ro = step (λ s.
      opens t z (Nr E) {h = d} rb ro (λ vs. move t (1 ∷ []) $ nodes_had E t d vs (λ is. rewrite t 1 (λ (ws : List Val). ‵ (cell_at full_share (Nr E).mir ws rb ro)) is refl $ s)))

  pub nodes_closes : K → Soaks G → {κ : Lft} {q : Share} {u v : Gv} {γ : GName} (d : D E) (rb ro : ℕ)
      → Step K 𝓛 (‵ (fobs γ ((Nr E).coded.code d)) ∷ ‵ (fbor κ (Borrowed (mem (Nr E)) rb ro γ)) ∷ ‵ (flft κ q) ∷ Γ) G
      (‵ (Held E d.blocks d.items) ∷ ‵ (cell_at full_share (Nr E).mir (words d.head d.tail d.len ∷ []) rb ro) ∷ ‵ (fobor κ q (Borrowed (mem (Nr E)) rb ro γ)) ∷ ‵ (fobs γ u) ∷ ‵ (fauth γ v) ∷ Γ) G
  nodes_closes t z d rb ro = step (λ s. nodes_made E t d $ move t (1 ∷ 0 ∷ []) $ closes t z (Nr E) d (words d.head d.tail d.len ∷ []) rb ro $ s)

  pub nodes_seen : K → {κ : Lft} (d : D E) (b o : ℕ)
      → Step K 𝓛 (‵ (hidden_shr RawPtr κ d.head b (o + 0)) ∷ ‵ (hidden_shr RawPtr κ d.tail b (o + 8)) ∷ ‵ (hidden_shr usize κ d.len b (o + 16))
      ∷ ‵ (spread_lent (R E) (elem_places (R E) (links_of d.blocks)) d.items κ) ∷ ‵ (links_lent (links_of d.blocks) κ) ∷ Γ) G (‵ (hidden_shr (Nr E) κ d b o) ∷ Γ) G
  nodes_seen t d b o = step (λ s.
      unhide t $ fsplit t $ move t (1 ∷ []) $ fsplit t $ move t (2 ∷ []) $ fsplit t $ move t (1 ∷ []) $ drop t $ fsplit3 t $ move t (2 ∷ []) $ fsplit t $ move t (1 ∷ []) $ drop t $
      hide t $ move t (2 ∷ []) $ hide t $ move t (2 ∷ []) $ hide t $ s)

module _ {M : Type 1} {𝓤 : Ura M} {𝓛 : Logic 𝓤} {K : Type 0} {Γ : List (Item 𝓤)} where
  -- an `ensures` of two facts
  pub says_both : K → {φ ψ : Type 0} {P : SProp 𝓤} → φ → ψ → Step K 𝓛 Γ (prop P) Γ (prop (sep 𝓤 P (sep 𝓤 (fact 𝓤 φ) (fact 𝓤 ψ))))
  says_both t {φ} {ψ} {P} x y = step (λ s. record {
    prf = via 𝓤 P s.prf (qed 𝓛 (raw P ∷ []) {P = sep 𝓤 P (sep 𝓤 (fact 𝓤 φ) (fact 𝓤 ψ))} (
        frame ! $ use0 𝓛 (raw (fact 𝓤 ψ)) (fact_i 𝓤 ψ (emp 𝓤) y) $ use0 𝓛 (raw (fact 𝓤 φ)) (fact_i 𝓤 φ (emp 𝓤) x) $ done !));
  })

module _ (E : Bx) {M : Type 1} {𝓤 : Ura M} (𝓛 : Logic 𝓤) where
  -- two rows of nodes, as `append_in` of std has them in the other direction
  pub append_out : (ns ms : List (Link × Hd E)) (xs ys : List (X E)) → length ns ≡ length xs → ent 𝓤 (sem 𝓛 (Held E (ns ++ ms) (xs ++ ys))) (sep 𝓤 (sem 𝓛 (Held E ns xs)) (sem 𝓛 (Held E ms ys)))
  append_out [] ms [] ys e = qed 𝓛 (‵ (Held E ms ys) ∷ []) ∵ nothing ! $ nothing ! $ fjoin ! $ done !
  append_out [] ms (x ∷ xs) ys e = absurd (omega arith)
  append_out (n ∷ ns) ms [] ys e = absurd (omega arith)
  append_out (n ∷ ns) ms (x ∷ xs) ys e = qed 𝓛 (‵ (Held E (n ∷ ns ++ ms) (x ∷ xs ++ ys)) ∷ []) ∵
      use1 𝓛 (‵ (One E n x) ⊛ ‵ (Held E (ns ++ ms) (xs ++ ys))) (cons_out E 𝓛 n (ns ++ ms) x (xs ++ ys)) $ split ! $ move ! (1 ∷ []) $
      use1 𝓛 (‵ (Held E ns xs) ⊛ ‵ (Held E ms ys)) (append_out ns ms xs ys (omega arith)) $ split ! $ move ! (2 ∷ 0 ∷ []) $ use2 𝓛 (‵ (Held E (n ∷ ns) (x ∷ xs))) (cons_in E 𝓛 n ns x xs) $ done !
