-- Pieces that are written one after another.
use Rattle.std.proofs.Common.{◌≡◌, ℕ, suc, ◌+◌, ◌<◌, ◌≤◌, min, List, [], ◌∷◌, ◌++◌, length, take}
use Rattle.std.proofs.Common.{drop, get_or, Option, None, Some, Result, Ok, Err, OnErr, refl, ap}
use Rattle.std.proofs.Common.{sym, subst, ◌∙◌, arith, append-nil, append_assoc}
use Rattle.std.proofs.Math.Seq.{take-append-add, drop-cons}
use Rattle.std.proofs.lemmas.Grind.{flat_map-append}
use Rattle.std.proofs.lemmas.List.{take-append-drop, take-append-le, take_min, take_more, take_all}
use Rattle.dfdl_edge.specs.Sink.{Adds, AddsFront}
use Rattle.dfdl_pieces.specs.Pieces.{joined}

-- pieces, cut at one of them
joined_cut : (xs : List (List ℕ)) (i : ℕ) (d : List ℕ) → i < length xs
    → joined xs ≡ joined (take i xs) ++ (get_or xs i d ++ joined (drop (suc i) xs))
joined_cut xs i d here =
    ap joined (sym (take-append-drop i xs)) ∙ (flat_map-append (λ p. p) (take i xs) (drop i xs)
    ∙ ap (λ (rest : List (List ℕ)). joined (take i xs) ++ joined rest) (drop-cons xs i d here))

joined_more : (xs : List (List ℕ)) (i : ℕ) (d : List ℕ) → i < length xs
    → joined (take (i + 1) xs) ≡ joined (take i xs) ++ get_or xs i d
joined_more xs i d here =
    ap joined (take_more xs i d here) ∙ (flat_map-append (λ p. p) (take i xs) (get_or xs i d ∷ [])
    ∙ ap (λ (last : List ℕ). joined (take i xs) ++ last) (append-nil (get_or xs i d)))

adds_none : (a : Option (List ℕ)) → Adds a [] a
adds_none None = tt
adds_none (Some a) = sym (append-nil a)

adds_more : (a b c : Option (List ℕ)) (x y : List ℕ) → Adds a x b → Adds b y c → Adds a (x ++ y) c
adds_more None None None x y first second = tt
adds_more None None (Some c) x y first second = absurd second
adds_more None (Some b) c x y first second = absurd first
adds_more (Some a) None c x y first second = absurd first
adds_more (Some a) (Some b) None x y first second = absurd second
adds_more (Some a) (Some b) (Some c) x y first second =
    second ∙ (ap (λ (l : List ℕ). l ++ y) first ∙ append_assoc a x y)

front_more : (a b c : Option (List ℕ)) (x y z : List ℕ) → Adds a x b → AddsFront b y c
    → AddsFront a (x ++ (y ++ z)) c
front_more None None None x y z first second = tt
front_more None None (Some c) x y z first second = absurd second
front_more None (Some b) c x y z first second = absurd first
front_more (Some a) None c x y z first second = absurd first
front_more (Some a) (Some b) None x y z first second = absurd second
front_more (Some a) (Some b) (Some c) x y z first second =
    let n = min second.0 (length y) in
    let cut : take (length x + n) (x ++ (y ++ z)) ≡ x ++ take second.0 y =
    take-append-add x (y ++ z) n
    ∙ ap (λ (l : List ℕ). x ++ l) (take-append-le n y z (omega arith) ∙ take_min second.0 y) in
    (length x + n, second.1 ∙ (ap (λ (l : List ℕ). l ++ take second.0 y) first ∙ (append_assoc a x (take second.0 y) ∙ ap (λ (l : List ℕ). a ++ l) (sym cut))))

-- so many pieces were taken, and no call failed
pub record Sent (before : Option (List ℕ)) (count : ℕ) (pieces : List (List ℕ)) (i : ℕ)
    (now : Option (List ℕ)) (count_now : ℕ) : Type 0 where
  pub added : Adds before (joined (take i pieces)) now
  pub still : count_now ≡ count

pub none_sent : (before : Option (List ℕ)) (count : ℕ) (pieces : List (List ℕ))
    → Sent before count pieces 0 before count
none_sent before count pieces = record { added = adds_none before; still = refl }

module _ (before now new : Option (List ℕ)) (count count_now count_new : ℕ) (pieces : List (List ℕ)) (i : ℕ) (d : List ℕ) (here : i < length pieces)
    (sent : Sent before count pieces i now count_now) where
  pub one_sent : Adds now (get_or pieces i d) new → count_new ≡ count_now
      → Sent before count pieces (i + 1) new count_new
  one_sent adds still = record {
    added =
        subst (λ (l : List ℕ). Adds before l new) (sym (joined_more pieces i d here)) (adds_more before now new (joined (take i pieces)) (get_or pieces i d) sent.added adds);
    still = still ∙ sent.still;
  }

  pub front_sent : AddsFront now (get_or pieces i d) new → AddsFront before (joined pieces) new
  front_sent front =
      subst (λ (l : List ℕ). AddsFront before l new) (sym (joined_cut pieces i d here))
      (front_more before now new (joined (take i pieces)) (get_or pieces i d) (joined (drop (suc i) pieces)) sent.added front)

-- a front of all where the call on a piece failed
pub stopped : {T E : Type 0} (r : Result T E) (before now new : Option (List ℕ)) (count count_now : ℕ) (pieces : List (List ℕ)) (i : ℕ) (piece item : List ℕ)
    → i < length pieces → Sent before count pieces i now count_now → piece ≡ item
    → item ≡ get_or pieces i item → OnErr r (AddsFront now piece new)
    → OnErr r (AddsFront before (joined pieces) new)
stopped (Ok done) before now new count count_now pieces i piece item here sent same is front = tt
stopped (Err failed) before now new count count_now pieces i piece item here sent same is front =
    front_sent before now new count count_now count_now pieces i item here sent (subst (λ (l : List ℕ). AddsFront now l new) (same ∙ is) front)

pub all_sent : (before now : Option (List ℕ)) (count count_now : ℕ) (pieces : List (List ℕ)) (i : ℕ)
    → length pieces ≤ i → Sent before count pieces i now count_now
    → Adds before (joined pieces) now
all_sent before now count count_now pieces i all sent =
    subst (λ (l : List (List ℕ)). Adds before (joined l) now) (take_all i pieces all) sent.added
