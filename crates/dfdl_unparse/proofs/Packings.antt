-- The bytes that a sink has taken, behind one more write.
use Rattle.std.proofs.Common.{◌≡◌, ℕ, ◌+◌, ◌*◌, ◌<◌, ◌≤◌, Option, Some, None, List, ◌++◌, length, take, drop, refl, sym, ap, ◌∙◌, arith, append_assoc, length-append, length-take, length-drop}
use Rattle.std.proofs.lemmas.List.Elements.{All-append}
use Rattle.std.proofs.lemmas.List.{drop_at, take-append-drop, take-take, take_at}
use Rattle.dfdl_edge.specs.Sink.{Adds, AddsFront}
use Rattle.dfdl_forms.specs.declared.order.BitOrder.{BitOrder}
use Rattle.dfdl_splice.specs.Bits.{bits_from}
use Rattle.dfdl_splice.proofs.Runs.{bits_from-add, bits_from-drop, bits_from-front, length-bits_from}
use Rattle.dfdl_unparse.proofs.Places.{take_behind}
use Rattle.dfdl_unparse.specs.Fronts.{ArePacked, HasTaken, HasTakenFront, whole}

-- the bits of bytes behind others
bits_behind : (order : BitOrder) (xs ys : List ℕ) → bits_from order (xs ++ ys) 0 (8 * length xs + 8 * length ys) ≡ bits_from order xs 0 (8 * length xs) ++ bits_from order ys 0 (8 * length ys)
bits_behind order xs ys =
    let m = 8 * length xs in let n = 8 * length ys in
    let cut : bits_from order (xs ++ ys) 0 (m + n) ≡ bits_from order (xs ++ ys) 0 m ++ bits_from order (xs ++ ys) (0 + m) n = bits_from-add order (xs ++ ys) 0 m n in
    let front : bits_from order (xs ++ ys) 0 m ≡ bits_from order xs 0 m = bits_from-front order xs (xs ++ ys) (length xs) m (take_at xs ys (length xs) refl) (omega arith) in
    let gone : drop (length xs) (xs ++ ys) ≡ ys = drop_at xs ys (length xs) refl in
    let rest : bits_from order ys 0 n ≡ bits_from order (xs ++ ys) (0 + m) n =
    ap (λ (bytes : List ℕ). bits_from order bytes 0 n) (sym gone)
    ∙ (bits_from-drop order (xs ++ ys) (length xs) n (m + n) refl
    ∙ (ap (λ (bits : List ℕ). drop m bits) cut ∙ drop_at _ _ m (length-bits_from order (xs ++ ys) 0 m))) in
    cut ∙ (ap (λ (bits : List ℕ). bits ++ bits_from order (xs ++ ys) (0 + m) n) front ∙ ap (λ (bits : List ℕ). bits_from order xs 0 m ++ bits) (sym rest))

take_sum : (m n : ℕ) (xs : List ℕ) → m ≤ length xs → take (m + n) xs ≡ take m xs ++ take n (drop m xs)
take_sum m n xs within =
    let long : length (take m xs) ≡ m = omega (arith, length-take m xs) in
    ap (λ (ys : List ℕ). take (m + n) ys) (sym (take-append-drop m xs))
    ∙ (ap (λ (k : ℕ). take (k + n) (take m xs ++ drop m xs)) (sym long) ∙ take_behind (take m xs) (drop m xs) n)

module _ (order : BitOrder) (old new sent bytes : List ℕ) (had : ArePacked order old sent) (longer : take (length old) new ≡ old)
    (more : ArePacked order (drop (whole old) new) bytes) where
  few : length old ≤ length new
  few = omega (arith, length-take (length old) new, ap (λ (xs : List ℕ). length xs) longer)

  pub packed_more : ArePacked order new (sent ++ bytes)
  packed_more =
      let few_ = few in
      let left = length-drop (whole old) new in
      let sum = length-append sent bytes in
      let had_ = had.count in
      let more_ = more.count in
      let w = whole old in
      let v = whole (drop w new) in
      let all : whole new ≡ w + v = omega arith in
      let eight : w + v ≡ 8 * length sent + 8 * length bytes = omega arith in
      record {
        count = omega arith;
        same =
            ap (λ (n : ℕ). bits_from order (sent ++ bytes) 0 n) (all ∙ eight)
            ∙ (bits_behind order sent bytes
            ∙ (ap (λ (n : ℕ). bits_from order sent 0 n ++ bits_from order bytes 0 (8 * length bytes)) (omega arith)
            ∙ (ap (λ (n : ℕ). bits_from order sent 0 w ++ bits_from order bytes 0 n) (omega arith)
            ∙ (ap (λ (bits : List ℕ). bits ++ bits_from order bytes 0 v) (had.same ∙ (ap (λ (xs : List ℕ). take w xs) (sym longer) ∙ take-take w (length old) new (omega arith)))
            ∙ (ap (λ (bits : List ℕ). take w new ++ bits) more.same
            ∙ (sym (take_sum w v new (omega arith)) ∙ ap (λ (n : ℕ). take n new) (sym all)))))));
        each = All-append (λ byte. byte < 256) sent bytes had.each more.each;
      }

  module _ (before : List ℕ) (taken now : Option (List ℕ)) (all : taken ≡ Some (before ++ sent)) where
    adds_told : (taken now : Option (List ℕ)) → taken ≡ Some (before ++ sent) → Adds taken bytes now → now ≡ Some (before ++ (sent ++ bytes))
    adds_told None now e adds = absurd (cc)
    adds_told (Some xs) None e adds = absurd adds
    adds_told (Some xs) (Some ys) e adds = ap (λ (zs : List ℕ). Some zs) (adds ∙ (ap (λ (zs : List ℕ). zs ++ bytes) (same e) ∙ append_assoc before sent bytes))
      where
        same : Some xs ≡ Some (before ++ sent) → xs ≡ before ++ sent
        same f = cc

    front_told : (taken now : Option (List ℕ)) → taken ≡ Some (before ++ sent) → AddsFront taken bytes now
        → (count : ℕ) × (now ≡ Some (before ++ take count (sent ++ bytes)))
    front_told None now e adds = absurd (cc)
    front_told (Some xs) None e adds = absurd adds
    front_told (Some xs) (Some ys) e adds = (
      length sent + adds.0,
      ap (λ (zs : List ℕ). Some zs) (adds.1 ∙ (ap (λ (zs : List ℕ). zs ++ take adds.0 bytes) (same e) ∙ (append_assoc before sent (take adds.0 bytes)
          ∙ ap (λ (zs : List ℕ). before ++ zs) (sym (take_behind sent bytes adds.0))))),
    )
      where
        same : Some xs ≡ Some (before ++ sent) → xs ≡ before ++ sent
        same f = cc

    pub has_taken : Adds taken bytes now → HasTaken order new before now
    has_taken adds = record { sent = sent ++ bytes; packed = packed_more; all = adds_told taken now all adds }

    pub has_taken_front : AddsFront taken bytes now → HasTakenFront order new before now
    has_taken_front adds =
        let told = front_told taken now all adds in
        record { sent = sent ++ bytes; count = told.0; packed = packed_more; all = told.1 }
