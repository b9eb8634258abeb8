-- Behind the start of the code come bodies, data sections and custom sections alone.
use Rattle.std.proofs.Common.{◌≡◌, refl, sym, subst, ◌∙◌, ◌⊎◌, inl, inr, ℕ, Bool, true, false, List, [], ◌∷◌, ◌++◌}
use Rattle.wasm_spec.specs.Framing.{Piece, Version, Custom, Counted, Start, DataCount, CodeStart, CodeEntry, Unknown, End}
use Rattle.wasm_spec_rules.specs.Sections.{rank, ranks}
use Rattle.wasm_spec_rules.proofs.SectionRanks.{Follows, done, free, here, body, later}

-- the ranks of what comes there
abbrev pub IsLate : ℕ → Type 0
IsLate k = (k ≡ 0) ⊎ ((k ≡ 13) ⊎ (k ≡ 14))

abbrev is_code_start : Piece → Bool
is_code_start (CodeStart n size) = true
is_code_start (Version number kind) = false
is_code_start (Custom name bytes) = false
is_code_start (Counted id n bytes) = false
is_code_start (Start x) = false
is_code_start (DataCount n) = false
is_code_start (CodeEntry bytes) = false
is_code_start (Unknown id bytes) = false
is_code_start End = false

-- the pieces are in order, behind the start of the code or before it
abbrev pub InOrder : Bool → List Piece → Type 0
InOrder code [] = Unit {0}
InOrder true (p ∷ ps) = IsLate (rank p) × InOrder true ps
InOrder false (p ∷ ps) = InOrder (is_code_start p) ps

-- bodies come behind a start of the code, which may have been before
abbrev pub HasStarted : Bool → List Piece → Type 0
HasStarted started [] = Unit {0}
HasStarted started (CodeEntry bytes ∷ ps) = (started ≡ true) × HasStarted started ps
HasStarted started (CodeStart n size ∷ ps) = HasStarted true ps
HasStarted started (Version number kind ∷ ps) = HasStarted started ps
HasStarted started (Custom name bytes ∷ ps) = HasStarted started ps
HasStarted started (Counted id n bytes ∷ ps) = HasStarted started ps
HasStarted started (Start x ∷ ps) = HasStarted started ps
HasStarted started (DataCount n ∷ ps) = HasStarted started ps
HasStarted started (Unknown id bytes ∷ ps) = HasStarted started ps
HasStarted started (End ∷ ps) = HasStarted started ps

pub started-append : (started : Bool) (ps qs : List Piece) → HasStarted started ps → ((b : Bool) → HasStarted b qs) → HasStarted started (ps ++ qs)
started-append started [] qs h k = k started
started-append started (CodeEntry bytes ∷ ps) qs h k = (h.0, started-append started ps qs h.1 k)
started-append started (CodeStart n size ∷ ps) qs h k = started-append true ps qs h k
started-append started (Version number kind ∷ ps) qs h k = started-append started ps qs h k
started-append started (Custom name bytes ∷ ps) qs h k = started-append started ps qs h k
started-append started (Counted id n bytes ∷ ps) qs h k = started-append started ps qs h k
started-append started (Start x ∷ ps) qs h k = started-append started ps qs h k
started-append started (DataCount n ∷ ps) qs h k = started-append started ps qs h k
started-append started (Unknown id bytes ∷ ps) qs h k = started-append started ps qs h k
started-append started (End ∷ ps) qs h k = started-append started ps qs h k

-- ranks that are all late
abbrev AreLate : List ℕ → Type 0
AreLate [] = Unit {0}
AreLate (k ∷ ks) = IsLate k × AreLate ks

-- ranks of which those behind that of the start of the code are
abbrev AreLateBehind : List ℕ → Type 0
AreLateBehind [] = Unit {0}
AreLateBehind (k ∷ ks) = (k ≡ 12 → AreLate ks) × AreLateBehind ks

late_order : (ks : List ℕ) (ps : List Piece) → AreLate ks → Follows ks ps → InOrder true ps
late_order ks [] l done = tt
late_order ks (p ∷ ps) l (free r f) = (inl r, late_order ks ps l f)
late_order (k ∷ ks) (p ∷ ps) l (here r f) = (subst IsLate (sym r) l.0, late_order ks ps l.1 f)
late_order (k ∷ ks) (p ∷ ps) l (body r b f) = (subst IsLate (sym r) l.0, late_order (k ∷ ks) ps l f)
late_order (k ∷ ks) ps l (later f) = late_order ks ps l.1 f

-- one more piece in front
one_more : (p : Piece) (ps : List Piece) → (rank p ≡ 12 → InOrder true ps) → InOrder false ps → InOrder false (p ∷ ps)
one_more (CodeStart n size) ps h g = h refl
one_more (Version number kind) ps h g = g
one_more (Custom name bytes) ps h g = g
one_more (Counted id n bytes) ps h g = g
one_more (Start x) ps h g = g
one_more (DataCount n) ps h g = g
one_more (CodeEntry bytes) ps h g = g
one_more (Unknown id bytes) ps h g = g
one_more End ps h g = g

order_from : (ks : List ℕ) (ps : List Piece) → AreLateBehind ks → Follows ks ps → InOrder false ps
order_from ks [] l done = tt
order_from ks (p ∷ ps) l (free r f) = one_more p ps (λ e. absurd cc) (order_from ks ps l f)
order_from (k ∷ ks) (p ∷ ps) l (here r f) = one_more p ps (λ e. late_order ks ps (l.0 (sym r ∙ e)) f) (order_from ks ps l.1 f)
order_from (k ∷ ks) (p ∷ ps) l (body r b f) = one_more p ps (λ e. absurd cc) (order_from (k ∷ ks) ps l f)
order_from (k ∷ ks) ps l (later f) = order_from ks ps l.1 f

ranks_late_behind : AreLateBehind ranks
ranks_late_behind = ((λ e. absurd cc), ((λ e. absurd cc), ((λ e. absurd cc), ((λ e. absurd cc), ((λ e. absurd cc), ((λ e. absurd cc), ((λ e. absurd cc), ((λ e. absurd cc), ((λ e. absurd cc), ((λ e. absurd cc), ((λ e. absurd cc), ((λ e. (inr (inl refl), (inr (inr refl), tt))), ((λ e. absurd cc), ((λ e. absurd cc), tt))))))))))))))

pub ranks_in_order : (ps : List Piece) → Follows ranks ps → InOrder false ps
ranks_in_order ps f = order_from ranks ps ranks_late_behind f
