-- Rows stand in order after each change of them.
use Rattle.std.proofs.Common.{◌≡◌, ◌<◌, ◌+◌, ℕ, Bool, true, false, cond, List, [], ◌∷◌, ◌++◌, map, refl, sym, subst, ◌⊎◌, inl, inr, arith}
use Rattle.std.specs.Prelude.{filter}
use Rattle.jm_dest.specs.declared.session.SessionId.{SessionId}
use Rattle.jm_machine.specs.declared.state.Row.{Row}
use Rattle.jm_machine.specs.declared.state.PlacedRow.{PlacedRow}
use Rattle.jm_machine.specs.Machine.{returned_rows}
use Rattle.jm_machine.specs.Rows.{AllAbove, InOrder, change_placed, deliver_placed, live_placed}

-- rows that stay keep their order
above_filter : (n : ℕ) (p : PlacedRow → Bool) (rows : List PlacedRow) → AllAbove n rows → AllAbove n (filter p rows)
above_filter n p [] h = h
above_filter n p (x ∷ rows) h = go (p x) (above_filter n p rows h.1)
  where
    go : (b : Bool) → AllAbove n (filter p rows) → AllAbove n (cond b (x ∷ filter p rows) (filter p rows))
    go true r = (h.0, r)
    go false r = r

pub order_filter : (n : ℕ) (p : PlacedRow → Bool) (rows : List PlacedRow) → InOrder n rows → InOrder n (filter p rows)
order_filter n p [] h = h
order_filter n p (x ∷ rows) h = go (p x) (order_filter n p rows h.2)
  where
    go : (b : Bool) → InOrder n (filter p rows) → InOrder n (cond b (x ∷ filter p rows) (filter p rows))
    go true r = (h.0, above_filter x.place p rows h.1, r)
    go false r = r

-- a row that passes goes, or stays at its place
abbrev pub LeavesOne : (Row → List Row) → Type 0
LeavesOne f = (r : Row) → (f r ≡ []) ⊎ ((x : Row) × (f r ≡ x ∷ []))

above_at : (n m : ℕ) (rs : List Row) (rows : List PlacedRow) → (rs ≡ []) ⊎ ((x : Row) × (rs ≡ x ∷ [])) → n < m → AllAbove n rows → AllAbove n (map (λ r. record { place = m; row = r }) rs ++ rows)
above_at n m rs rows (inl e) l h = subst (λ (t : List Row). AllAbove n (map (λ r. record { place = m; row = r }) t ++ rows)) (sym e) h
above_at n m rs rows (inr e) l h = subst (λ (t : List Row). AllAbove n (map (λ r. record { place = m; row = r }) t ++ rows)) (sym e.1) (l, h)

above_change : (n : ℕ) (p : Row → Bool) (f : Row → List Row) → LeavesOne f → (rows : List PlacedRow) → AllAbove n rows → AllAbove n (change_placed p f rows)
above_change n p f o [] h = h
above_change n p f o (x ∷ rows) h = go (p x.row) (above_change n p f o rows h.1)
  where
    go : (b : Bool) → AllAbove n (change_placed p f rows) → AllAbove n (cond b (map (λ r. record { place = x.place; row = r }) (f x.row) ++ rows) (x ∷ change_placed p f rows))
    go true r = above_at n x.place (f x.row) rows (o x.row) h.0 h.1
    go false r = (h.0, r)

order_at : (n m : ℕ) (rs : List Row) (rows : List PlacedRow) → (rs ≡ []) ⊎ ((x : Row) × (rs ≡ x ∷ [])) → m < n → AllAbove m rows → InOrder n rows → InOrder n (map (λ r. record { place = m; row = r }) rs ++ rows)
order_at n m rs rows (inl e) l a h = subst (λ (t : List Row). InOrder n (map (λ r. record { place = m; row = r }) t ++ rows)) (sym e) h
order_at n m rs rows (inr e) l a h = subst (λ (t : List Row). InOrder n (map (λ r. record { place = m; row = r }) t ++ rows)) (sym e.1) (l, a, h)

order_change : (n : ℕ) (p : Row → Bool) (f : Row → List Row) → LeavesOne f → (rows : List PlacedRow) → InOrder n rows → InOrder n (change_placed p f rows)
order_change n p f o [] h = h
order_change n p f o (x ∷ rows) h = go (p x.row) (order_change n p f o rows h.2)
  where
    go : (b : Bool) → InOrder n (change_placed p f rows) → InOrder n (cond b (map (λ r. record { place = x.place; row = r }) (f x.row) ++ rows) (x ∷ change_placed p f rows))
    go true r = order_at n x.place (f x.row) rows (o x.row) h.0 h.1 h.2
    go false r = (h.0, above_change x.place p f o rows h.1, r)

-- the next row is delivered
pub order_delivered : (n now : ℕ) (f : Row → List Row) → LeavesOne f → (rows : List PlacedRow) → InOrder n rows → InOrder n (deliver_placed now f rows)
order_delivered n now f o rows h = order_change n _ f o (live_placed now rows) (order_filter n _ rows h)

-- rows that wait again stand where they stood
above_returned : (n : ℕ) (p : SessionId → ℕ → Bool) (rows : List PlacedRow) → AllAbove n rows → AllAbove n (returned_rows p rows)
above_returned n p [] h = h
above_returned n p (x ∷ rows) h = (h.0, above_returned n p rows h.1)

pub order_returned : (n : ℕ) (p : SessionId → ℕ → Bool) (rows : List PlacedRow) → InOrder n rows → InOrder n (returned_rows p rows)
order_returned n p [] h = h
order_returned n p (x ∷ rows) h = (h.0, above_returned x.place p rows h.1, order_returned n p rows h.2)

-- a row comes at the next place
above_push : (n m : ℕ) (r : Row) (rows : List PlacedRow) → n < m → AllAbove n rows → AllAbove n (rows ++ record { place = m; row = r } ∷ [])
above_push n m r [] l h = (l, tt)
above_push n m r (x ∷ rows) l h = (h.0, above_push n m r rows l h.1)

pub order_push : (n : ℕ) (r : Row) (rows : List PlacedRow) → InOrder n rows → InOrder (n + 1) (rows ++ record { place = n; row = r } ∷ [])
order_push n r [] h = (omega arith, tt, tt)
order_push n r (x ∷ rows) h = (omega (arith, h.0), above_push x.place n r rows h.0 h.1, order_push n r rows h.2)
