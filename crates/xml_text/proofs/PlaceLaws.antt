-- Laws of where the parts of a text stand.
use Rattle.std.proofs.Common.{ℕ, ◌≤◌, List, [], ◌∷◌, ◌++◌, arith}
use Rattle.xml_text.specs.declared.tree.Span.{Span}
use Rattle.xml_text.specs.Places.{Place, element_place, text_place, places_of, IsBetween, AttributesBetween, end_of, IsPlaced, ArePlaced}

between_wider : (low most mid high : ℕ) (s : Span) → IsBetween low mid s → most ≤ low → mid ≤ high → IsBetween most high s
between_wider low most mid high s h k l = (omega (arith, h.0, k), h.1, omega (arith, h.2, l))

placed_wider : (low most mid high : ℕ) (p : Place) → IsPlaced low mid p → most ≤ low → mid ≤ high → IsPlaced most high p
placed_wider low most mid high (element_place span content attributes children) h k l = (between_wider low most mid high span h.0 k l, h.1, h.2, h.3)
placed_wider low most mid high (text_place span) h k l = between_wider low most mid high span h k l

ends : (low high : ℕ) (p : Place) → IsPlaced low high p → end_of p ≤ high
ends low high (element_place span content attributes children) h = h.0.2
ends low high (text_place span) h = h.2

spans : (low high : ℕ) (p : Place) → IsPlaced low high p → low ≤ high
spans low high (element_place span content attributes children) h = omega (arith, h.0.0, h.0.1, h.0.2)
spans low high (text_place span) h = omega (arith, h.0, h.1, h.2)

-- children up to a later place
pub placed_longer : (low mid high : ℕ) (ps : List Place) → ArePlaced low mid (places_of ps) → mid ≤ high → ArePlaced low high (places_of ps)
placed_longer low mid high [] h l = omega (arith, h, l)
placed_longer low mid high (p ∷ ps) h l = (placed_wider low low mid high p h.0 (omega arith) l, placed_longer (end_of p) mid high ps h.1 l)

-- one child more
pub placed_more : (low mid high : ℕ) (ps : List Place) (p : Place) → ArePlaced low mid (places_of ps) → IsPlaced mid high p
    → ArePlaced low high (places_of (ps ++ p ∷ []))
placed_more low mid high [] p h k = (placed_wider mid low high high p k h (omega arith), ends mid high p k)
placed_more low mid high (q ∷ ps) p h k =
    (placed_wider low low mid high q h.0 (omega arith) (spans mid high p k), placed_more (end_of q) mid high ps p h.1 k)

-- attributes up to a later place, and one more
pub attributes_longer : (low mid high : ℕ) (found : List (Span × Span)) → AttributesBetween low mid found → mid ≤ high → AttributesBetween low high found
attributes_longer low mid high [] h l = omega (arith, h, l)
attributes_longer low mid high (a ∷ rest) h l = (between_wider low low mid high a.0 h.0 (omega arith) l, h.1, attributes_longer a.0.end mid high rest h.2 l)

pub attributes_more : (low mid high : ℕ) (found : List (Span × Span)) (a : Span × Span) → AttributesBetween low mid found → IsBetween mid high a.0
    → IsBetween a.0.from a.0.end a.1 → AttributesBetween low high (found ++ a ∷ [])
attributes_more low mid high [] a h k v = (between_wider mid low high high a.0 k h (omega arith), v, k.2)
attributes_more low mid high (b ∷ found) a h k v =
    (between_wider low low mid high b.0 h.0 (omega arith) (omega (arith, k.0, k.1, k.2)), h.1, attributes_more b.0.end mid high found a h.2 k v)

pub attributes_wider : (low most mid high : ℕ) (found : List (Span × Span)) → AttributesBetween low mid found → most ≤ low → mid ≤ high
    → AttributesBetween most high found
attributes_wider low most mid high [] h k l = omega (arith, h, k, l)
attributes_wider low most mid high (a ∷ rest) h k l =
    (between_wider low most mid high a.0 h.0 k l, h.1, attributes_longer a.0.end mid high rest h.2 l)

-- children stand in order
pub placed_in_order : (low high : ℕ) (ps : List Place) → ArePlaced low high (places_of ps) → low ≤ high
placed_in_order low high [] h = h
placed_in_order low high (p ∷ ps) h = spans low high p h.0
