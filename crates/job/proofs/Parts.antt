-- What holds of each part of a product holds of the product: a fact of several clauses from a lemma that proves them all at once.

pub parts2 : {T0 T1 R : Type 0} → (T0 → T1 → R) → T0 × T1 → R
parts2 f p = f p.0 p.1

pub parts4 : {T0 T1 T2 T3 R : Type 0} → (T0 → T1 → T2 → T3 → R) → T0 × (T1 × (T2 × T3)) → R
parts4 f p = f p.0 p.1.0 p.1.1.0 p.1.1.1

pub parts5 : {T0 T1 T2 T3 T4 R : Type 0} → (T0 → T1 → T2 → T3 → T4 → R) → T0 × (T1 × (T2 × (T3 × T4))) → R
parts5 f p = f p.0 p.1.0 p.1.1.0 p.1.1.1.0 p.1.1.1.1
