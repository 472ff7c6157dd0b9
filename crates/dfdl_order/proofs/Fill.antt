-- An order that is being made grows by a component that is ready.
use Rattle.std.proofs.Common.{◌≡◌, ◌≢◌, if◌then◌else◌, ℕ, ◌+◌, ◌<◌, ◌≤◌, List, [], ◌∷◌, ◌++◌, length, set, get_or, Bool, true, nat_lt, nat_le, All, sym, ap, subst, ◌∙◌, arith, inl, inr, get_or-set_same, get_or-set_other, length-set, length-append}
use Rattle.std.specs.List.{list_all, sum_by}
use Rattle.std.proofs.Math.ListN.{get_or-append}
use Rattle.std.proofs.Math.Seq.{get_or-append_seam}
use Rattle.std.proofs.lemmas.Bool.{cases_eq, and_parts, ltb-true, lt-ltb, le-ltb, leb-true}
use Rattle.std.proofs.lemmas.List.Elements.{All-get_or, All-from_get_or}
use Rattle.std.proofs.lemmas.List.Sums.{sum_by-set, AllPass-from_list_all}
use Rattle.dfdl_order.specs.Parts.{uses_of, IsClosed, Places}
use Rattle.dfdl_order.specs.Filling.{IsListing, IsPart, placed, with_one, open_one, all_ranked, is_ready}

-- what a test of all elements says of each one
pub all_at : (p : ℕ → Bool) (xs : List ℕ) → list_all p xs ≡ true → All (λ x. p x ≡ true) xs
all_at p xs e = AllPass-from_list_all p xs e

open_is : (n r : ℕ) → n ≤ r → open_one n r ≡ 1
open_is n r h = ap (λ (b : Bool). if b then 0 else 1) (le-ltb r n h)

pub placed_is : (n r : ℕ) → r < n → open_one n r ≡ 0
placed_is n r h = ap (λ (b : Bool). if b then 0 else 1) (lt-ltb r n h)

-- what is known where a component is ready
pub ready_open : (uses : List (List ℕ)) (order : Places) (c : ℕ) → is_ready uses order c ≡ true → length uses ≤ get_or order.rank c 0
ready_open uses order c e = leb-true (length uses) (get_or order.rank c 0)
    (and_parts (nat_le (length uses) (get_or order.rank c 0)) (all_ranked (length uses) order (uses_of uses c)) e).0

pub ready_parts : (uses : List (List ℕ)) (order : Places) (c : ℕ) → is_ready uses order c ≡ true
    → All (λ p. nat_lt (get_or order.rank p 0) (length uses) ≡ true) (uses_of uses c)
ready_parts uses order c e = all_at (λ p. nat_lt (get_or order.rank p 0) (length uses)) (uses_of uses c)
    (and_parts (nat_le (length uses) (get_or order.rank c 0)) (all_ranked (length uses) order (uses_of uses c)) e).1

-- the places that are left, after one is given
counted_more : (n : ℕ) (rank : List ℕ) (c r : ℕ) → length rank ≡ n → c < n → n ≤ get_or rank c 0 → r < n
    → sum_by (open_one n) (set rank c r) + 1 ≡ sum_by (open_one n) rank
counted_more n rank c r long within unplaced small =
    let moved : sum_by (open_one n) (set rank c r) + open_one n (get_or rank c 0) ≡ sum_by (open_one n) rank + open_one n r
    = sum_by-set (open_one n) rank c r 0 (omega (arith, long)) in
    omega (arith, moved, open_is n (get_or rank c 0) unplaced, placed_is n r small)

-- fewer components have a place than there are, where one has none
pub room : (n : ℕ) (order : Places) (c : ℕ) → IsListing n order → c < n → n ≤ get_or order.rank c 0 → length order.list < n
room n order c listing within unplaced =
    let more : sum_by (open_one n) (set order.rank c 0) + 1 ≡ sum_by (open_one n) order.rank
    = counted_more n order.rank c 0 listing.ranked within unplaced (omega arith) in
    omega (arith, more, listing.counted)

-- no more are listed than there are
pub few : (n : ℕ) (order : Places) → IsListing n order → length order.list ≤ n
few n order listing = omega (arith, listing.counted)

module _ (n : ℕ) (list rank : List ℕ) (c : ℕ) (within : c < n) (listing : IsListing n (placed list rank)) (unplaced : n ≤ get_or rank c 0) where
  fits : length list < n
  fits = room n (placed list rank) c listing within unplaced

  at_c : get_or (set rank c (length list)) c 0 ≡ length list
  at_c = get_or-set_same rank c (length list) 0 (omega (arith, listing.ranked, within))

  at_other : (b : ℕ) → b ≢ c → get_or (set rank c (length list)) b 0 ≡ get_or rank b 0
  at_other b other = get_or-set_other rank c b (length list) 0 other

  -- a component that has a place is another
  is_other : (b : ℕ) → get_or rank b 0 < n → b ≢ c
  is_other b has same = absurd (omega (arith, unplaced, has, ap (λ (k : ℕ). get_or rank k 0) same))

  place_old : (b : ℕ) → b < n → b ≢ c → get_or (set rank c (length list)) b 0 < n
      → (get_or (set rank c (length list)) b 0 < length (list ++ c ∷ [])) × (get_or (list ++ c ∷ []) (get_or (set rank c (length list)) b 0) 0 ≡ b)
  place_old b inside other has =
      let same : get_or (set rank c (length list)) b 0 ≡ get_or rank b 0 = at_other b other in
      let old : (get_or rank b 0 < length list) × (get_or list (get_or rank b 0) 0 ≡ b) = listing.place b inside (omega (arith, same, has)) in (
        omega (arith, same, old.0, length-append list (c ∷ [])),
        ap (λ (k : ℕ). get_or (list ++ c ∷ []) k 0) same ∙ (get_or-append list (c ∷ []) 0 (get_or rank b 0) old.0 ∙ old.1),
      )

  place_new : (b : ℕ) → b ≡ c
      → (get_or (set rank c (length list)) b 0 < length (list ++ c ∷ [])) × (get_or (list ++ c ∷ []) (get_or (set rank c (length list)) b 0) 0 ≡ b)
  place_new b is =
      let same : get_or (set rank c (length list)) b 0 ≡ length list = ap (λ (k : ℕ). get_or (set rank c (length list)) k 0) is ∙ at_c in (
        omega (arith, same, length-append list (c ∷ [])),
        ap (λ (k : ℕ). get_or (list ++ c ∷ []) k 0) same ∙ (get_or-append_seam list c [] 0 ∙ sym is),
      )

  component_old : (i : ℕ) → i < length list
      → (get_or (list ++ c ∷ []) i 0 < n) × (get_or (set rank c (length list)) (get_or (list ++ c ∷ []) i 0) 0 ≡ i)
  component_old i small =
      let same : get_or (list ++ c ∷ []) i 0 ≡ get_or list i 0 = get_or-append list (c ∷ []) 0 i small in
      let old : (get_or list i 0 < n) × (get_or rank (get_or list i 0) 0 ≡ i) = listing.component i small in
      let other : get_or list i 0 ≢ c = is_other (get_or list i 0) (omega (arith, old.1, fits, small)) in (
        omega (arith, same, old.0),
        ap (λ (k : ℕ). get_or (set rank c (length list)) k 0) same ∙ (at_other (get_or list i 0) other ∙ old.1),
      )

  component_new : (i : ℕ) → i ≡ length list
      → (get_or (list ++ c ∷ []) i 0 < n) × (get_or (set rank c (length list)) (get_or (list ++ c ∷ []) i 0) 0 ≡ i)
  component_new i is =
      let same : get_or (list ++ c ∷ []) i 0 ≡ c = ap (λ (k : ℕ). get_or (list ++ c ∷ []) k 0) is ∙ get_or-append_seam list c [] 0 in (
        omega (arith, same, within),
        ap (λ (k : ℕ). get_or (set rank c (length list)) k 0) same ∙ (at_c ∙ sym is),
      )

  pub listed : IsListing n (placed (list ++ c ∷ []) (set rank c (length list)))
  listed = record {
    ranked = length-set rank c (length list) ∙ listing.ranked;
    counted = omega (arith, length-append list (c ∷ []), listing.counted, counted_more n rank c (length list) listing.ranked within unplaced fits);
    place = λ b inside has. elim (cases_eq b c) [
      | inl is ↦ place_new b is
      | inr other ↦ place_old b inside other has
    ];
    component = λ i small. elim (cases_eq i (length list)) [
      | inl is ↦ component_new i is
      | inr other ↦ component_old i (omega (arith, small, other, length-append list (c ∷ [])))
    ];
  }

-- a component keeps its place where another one is put behind
pub placed_still : (n : ℕ) (order : Places) (c b : ℕ) → n ≤ get_or order.rank c 0 → get_or order.rank b 0 < n
    → get_or (with_one order c).rank b 0 ≡ get_or order.rank b 0
placed_still n order c b unplaced has = at_other_one order.rank c b (length order.list) (λ e. omega (arith, unplaced, has, ap (λ (k : ℕ). get_or order.rank k 0) e))
  where
    at_other_one : (rank : List ℕ) (c b r : ℕ) → b ≢ c → get_or (set rank c r) b 0 ≡ get_or rank b 0
    at_other_one rank c b r other = get_or-set_other rank c b r 0 other

-- the one that is put behind has a place
pub placed_now : (n : ℕ) (order : Places) (c : ℕ) → IsListing n order → c < n → n ≤ get_or order.rank c 0 → get_or (with_one order c).rank c 0 ≡ length order.list
placed_now n order c listing within unplaced = get_or-set_same order.rank c (length order.list) 0 (omega (arith, listing.ranked, within))

module _ (uses : List (List ℕ)) (list rank : List ℕ) (c : ℕ) (within : c < length uses) (closed : IsClosed uses)
    (part : IsPart uses (placed list rank)) (ready : is_ready uses (placed list rank) c ≡ true) where
  open_now : length uses ≤ get_or rank c 0
  open_now = ready_open uses (placed list rank) c ready

  fits_now : length list < length uses
  fits_now = room (length uses) (placed list rank) c part.listing within open_now

  now_at_c : get_or (set rank c (length list)) c 0 ≡ length list
  now_at_c = placed_now (length uses) (placed list rank) c part.listing within open_now

  now_other : (b : ℕ) → b ≢ c → get_or (set rank c (length list)) b 0 ≡ get_or rank b 0
  now_other b other = get_or-set_other rank c b (length list) 0 other

  -- a part that had a place before has it still
  falls_at : (p top top_now : ℕ) → p < length uses → get_or rank p 0 < top → top ≤ length uses → top ≡ top_now
      → (p < length uses) × (get_or (set rank c (length list)) p 0 < top_now)
  falls_at p top top_now inside less few_of same =
      let kept : get_or (set rank c (length list)) p 0 ≡ get_or rank p 0 = placed_still (length uses) (placed list rank) c p open_now (omega (arith, less, few_of)) in
      (inside, omega (arith, kept, less, same))

  falls_old : (b : ℕ) → b < length uses → b ≢ c → get_or (set rank c (length list)) b 0 < length uses
      → All (λ p. (p < length uses) × (get_or (set rank c (length list)) p 0 < get_or (set rank c (length list)) b 0)) (uses_of uses b)
  falls_old b inside other has =
      let same : get_or (set rank c (length list)) b 0 ≡ get_or rank b 0 = now_other b other in
      let old : All (λ p. (p < length uses) × (get_or rank p 0 < get_or rank b 0)) (uses_of uses b) = part.falls b inside (omega (arith, same, has)) in
      All-from_get_or (λ p. (p < length uses) × (get_or (set rank c (length list)) p 0 < get_or (set rank c (length list)) b 0)) (uses_of uses b) 0
      (λ i small.
      let one : (get_or (uses_of uses b) i 0 < length uses) × (get_or rank (get_or (uses_of uses b) i 0) 0 < get_or rank b 0)
      = All-get_or (λ p. (p < length uses) × (get_or rank p 0 < get_or rank b 0)) (uses_of uses b) i 0 small old in
      falls_at (get_or (uses_of uses b) i 0) (get_or rank b 0) (get_or (set rank c (length list)) b 0) one.0 one.1 (omega (arith, same, has)) (sym same))

  falls_new : (b : ℕ) → b ≡ c
      → All (λ p. (p < length uses) × (get_or (set rank c (length list)) p 0 < get_or (set rank c (length list)) b 0)) (uses_of uses b)
  falls_new b is =
      let same : get_or (set rank c (length list)) b 0 ≡ length list = ap (λ (k : ℕ). get_or (set rank c (length list)) k 0) is ∙ now_at_c in
      let inside : All (λ p. p < length uses) (uses_of uses c) = All-get_or (λ parts. All (λ p. p < length uses) parts) uses c [] within closed in
      let known : All (λ p. nat_lt (get_or rank p 0) (length uses) ≡ true) (uses_of uses c) = ready_parts uses (placed list rank) c ready in
      let all : All (λ p. (p < length uses) × (get_or (set rank c (length list)) p 0 < get_or (set rank c (length list)) b 0)) (uses_of uses c)
      = All-from_get_or (λ p. (p < length uses) × (get_or (set rank c (length list)) p 0 < get_or (set rank c (length list)) b 0)) (uses_of uses c) 0
      (λ i small.
      let p : ℕ = get_or (uses_of uses c) i 0 in
      let low : p < length uses = All-get_or (λ q. q < length uses) (uses_of uses c) i 0 small inside in
      let has : get_or rank p 0 < length uses = ltb-true (get_or rank p 0) (length uses)
      (All-get_or (λ q. nat_lt (get_or rank q 0) (length uses) ≡ true) (uses_of uses c) i 0 small known) in
      falls_at p (length list) (get_or (set rank c (length list)) b 0) low ((part.listing.place p low has).0) (omega (arith, fits_now)) (sym same)) in
      subst (λ (k : ℕ). All (λ p. (p < length uses) × (get_or (set rank c (length list)) p 0 < get_or (set rank c (length list)) b 0)) (uses_of uses k)) (sym is) all

  pub added : IsPart uses (placed (list ++ c ∷ []) (set rank c (length list)))
  added = record {
    listing = listed (length uses) list rank c within part.listing open_now;
    falls = λ b inside has. elim (cases_eq b c) [
      | inl is ↦ falls_new b is
      | inr other ↦ falls_old b inside other has
    ];
  }
