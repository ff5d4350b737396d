-- What stays linked where a node comes or goes between two others.
use Rattle.cursor_list.proofs.Vocabulary.{◌≡◌, refl, List, [], ◌∷◌, ◌++◌, Ptr, Link, LeadsForward, LeadsBackTo, LeadsBack, IsChained}

-- ---- a node at p comes between l and m
LeadsForward-between : (h p : Ptr) (ks : List Link) (l m : Link) (ms : List Link) → LeadsForward h (ks ++ l ∷ m ∷ ms)
    → LeadsForward h (ks ++ (l.0, p, l.2) ∷ (p, m.0, l.0) ∷ (m.0, m.1, p) ∷ ms) × (l.1 ≡ m.0)
LeadsForward-between h p [] l m ms c = ((c.0, (refl, (refl, c.1.1))), c.1.0)
LeadsForward-between h p (k ∷ ks) l m ms c = let on = LeadsForward-between k.1 p ks l m ms c.1 in ((c.0, on.0), on.1)

LeadsBackTo-between : (a t p : Ptr) (ks : List Link) (l m : Link) (ms : List Link) → LeadsBackTo a (ks ++ l ∷ m ∷ ms) t
    → LeadsBackTo a (ks ++ (l.0, p, l.2) ∷ (p, m.0, l.0) ∷ (m.0, m.1, p) ∷ ms) t × (m.2 ≡ l.0)
LeadsBackTo-between a t p [] l m ms c = ((c.0, (refl, (refl, c.1.1))), c.1.0)
LeadsBackTo-between a t p (k ∷ ks) l m ms c = let on = LeadsBackTo-between k.0 t p ks l m ms c.1 in ((c.0, on.0), on.1)

LeadsBack-between : (t p : Ptr) (ks : List Link) (l m : Link) (ms : List Link) → LeadsBack (ks ++ l ∷ m ∷ ms) t
    → LeadsBack (ks ++ (l.0, p, l.2) ∷ (p, m.0, l.0) ∷ (m.0, m.1, p) ∷ ms) t × (m.2 ≡ l.0)
LeadsBack-between t p [] l m ms c = ((refl, (refl, c.1)), c.0)
LeadsBack-between t p (k ∷ ks) l m ms c = LeadsBackTo-between k.0 t p ks l m ms c

pub IsChained-between : (h t p : Ptr) (ks : List Link) (l m : Link) (ms : List Link) → IsChained h t (ks ++ l ∷ m ∷ ms)
    → IsChained h t (ks ++ (l.0, p, l.2) ∷ (p, m.0, l.0) ∷ (m.0, m.1, p) ∷ ms) × (l.1 ≡ m.0) × (m.2 ≡ l.0)
IsChained-between h t p ks l m ms c =
    let forward = LeadsForward-between h p ks l m ms c.0 in
    let back = LeadsBack-between t p ks l m ms c.1 in
    ((forward.0, back.0), forward.1, back.1)

-- ---- the node n between l and m goes
LeadsForward-without : (h : Ptr) (ks : List Link) (l n m : Link) (ms : List Link) → LeadsForward h (ks ++ l ∷ n ∷ m ∷ ms)
    → LeadsForward h (ks ++ (l.0, m.0, l.2) ∷ (m.0, m.1, l.0) ∷ ms) × (n.1 ≡ m.0)
LeadsForward-without h [] l n m ms c = ((c.0, (refl, c.1.1.1)), c.1.1.0)
LeadsForward-without h (k ∷ ks) l n m ms c = let on = LeadsForward-without k.1 ks l n m ms c.1 in ((c.0, on.0), on.1)

LeadsBackTo-without : (a t : Ptr) (ks : List Link) (l n m : Link) (ms : List Link) → LeadsBackTo a (ks ++ l ∷ n ∷ m ∷ ms) t
    → LeadsBackTo a (ks ++ (l.0, m.0, l.2) ∷ (m.0, m.1, l.0) ∷ ms) t × (n.2 ≡ l.0)
LeadsBackTo-without a t [] l n m ms c = ((c.0, (refl, c.1.1.1)), c.1.0)
LeadsBackTo-without a t (k ∷ ks) l n m ms c = let on = LeadsBackTo-without k.0 t ks l n m ms c.1 in ((c.0, on.0), on.1)

LeadsBack-without : (t : Ptr) (ks : List Link) (l n m : Link) (ms : List Link) → LeadsBack (ks ++ l ∷ n ∷ m ∷ ms) t
    → LeadsBack (ks ++ (l.0, m.0, l.2) ∷ (m.0, m.1, l.0) ∷ ms) t × (n.2 ≡ l.0)
LeadsBack-without t [] l n m ms c = ((refl, c.1.1), c.0)
LeadsBack-without t (k ∷ ks) l n m ms c = LeadsBackTo-without k.0 t ks l n m ms c

pub IsChained-without : (h t : Ptr) (ks : List Link) (l n m : Link) (ms : List Link) → IsChained h t (ks ++ l ∷ n ∷ m ∷ ms)
    → IsChained h t (ks ++ (l.0, m.0, l.2) ∷ (m.0, m.1, l.0) ∷ ms) × (n.1 ≡ m.0) × (n.2 ≡ l.0)
IsChained-without h t ks l n m ms c =
    let forward = LeadsForward-without h ks l n m ms c.0 in
    let back = LeadsBack-without t ks l n m ms c.1 in
    ((forward.0, back.0), forward.1, back.1)
