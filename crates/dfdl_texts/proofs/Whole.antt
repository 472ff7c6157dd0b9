-- Where the looks of a text lie, and where a text that is read lies.
use Rattle.std.proofs.Common.{◌≡◌, ℕ, zero, suc, ◌+◌, ◌*◌, ◌/◌, ◌<◌, ◌≤◌, Bool, true, false, cond, leb-false, List, [], ◌∷◌, ◌++◌, length, max, refl, sym, subst, ◌∙◌, arith, length-append}
use Rattle.std.specs.List.{All}
use Rattle.std.specs.Char.{IsScalar}
use Rattle.std.proofs.lemmas.List.Elements.{All-append, All-cons, All-nil}
use Rattle.dfdl_forms.specs.declared.encoding.Encoding.{Encoding}
use Rattle.dfdl_bits.specs.declared.window.Seen.{Seen}
use Rattle.dfdl_bits.specs.declared.window.Seen.TheVariants.{Byte}
use Rattle.dfdl_looks.specs.Tallies.{Tally}
use Rattle.dfdl_looks.specs.Asks.{Ask, Answer, Reached, Told, TooFar, Missing, Reading, ask, AsksFrom, go_on}
use Rattle.dfdl_looks.proofs.Sequels.{ask-then, and_then-from}
use Rattle.dfdl_texts.specs.declared.extent.Extent.{Extent}
use Rattle.dfdl_texts.specs.declared.extent.Extent.TheVariants.{Box, Characters, Front}
use Rattle.dfdl_texts.specs.Units.{Piece, Holds, Broken, NoMore, lies_in, unit_at}
use Rattle.dfdl_texts.specs.Texts.{Text, Reads, HasBad, IsCut, IsBoxed, most_of, past_box, past_data, at_end, at_bad, after_piece, text_from, text_at, IsRead}
use Rattle.dfdl_texts.proofs.Lying.{unit-from, Lies, unit-lies}

module _ (enc : Encoding) (replaces : Bool) (extent : Extent) (stop : ℕ) where
  -- a text from byte k on, behind these characters
  abbrev pub going : ℕ → List ℕ → ℕ → Ask Text
  going = text_from enc replaces extent stop

  -- what follows from a unit of it
  abbrev pub going_on : ℕ → List ℕ → ℕ → Piece → Ask Text
  going_on more chars k = after_piece replaces (at_bad extent chars k) (at_end extent stop chars k) (λ c bytes. going more (chars ++ c ∷ []) (k + bytes))

  from-piece : (low more k : ℕ) (chars : List ℕ) → ((c bytes : ℕ) → AsksFrom low (going more (chars ++ c ∷ []) (k + bytes)))
      → (piece : Piece) → AsksFrom low (going_on more chars k piece)
  from-piece low more k chars then (Holds c bytes) = then c bytes
  from-piece low more k chars then (Broken bytes) = replaced replaces
    where
      replaced : (b : Bool) → AsksFrom low (cond b (going more (chars ++ 0xFFFD ∷ []) (k + bytes)) (Answer (at_bad extent chars k)))
      replaced true = then 0xFFFD bytes
      replaced false = tt
  from-piece low more k chars then NoMore = tt

  going-from : (low more k : ℕ) (chars : List ℕ) → low ≤ k → AsksFrom low (going more chars k)
  going-from low zero k chars behind = tt
  going-from low (suc more) k chars behind =
      and_then-from low (unit_at enc stop k) (going_on more chars k) (unit-from low stop enc k behind)
      (from-piece low more k chars (λ c bytes. going-from low more (k + bytes) (chars ++ c ∷ []) (omega arith)))

  -- each look of a text is at its first byte or behind it
  pub text-from : (k : ℕ) → AsksFrom k (text_at enc replaces extent stop k)
  text-from k = going-from k (most_of extent stop k) k [] (omega arith)

  module _ (look : ℕ → Seen) (small near : Type 0) (last : ℕ) where
    abbrev pub Shown : ℕ → Type 0
    Shown k = (j b : ℕ) → k ≤ j → look j ≡ Byte b → (small → b < 256) × (near → j + 1 ≤ last)

    -- these are the characters of the text that goes on from byte k with so many characters more, behind others
    pub record Ends (more k : ℕ) (before chars : List ℕ) (end : ℕ) : Type 0 where
      pub scalars : small → All IsScalar before → All IsScalar chars
      pub behind : k ≤ end
      pub come : near → end ≤ max k last
      pub inside : end ≤ max k (stop / 8)
      pub whole : extent ≡ Box → stop / 8 ≤ k + more → stop / 8 ≤ end
      pub count : (n : ℕ) → extent ≡ Characters n → length chars ≡ length before + more

    abbrev IsEnded : ℕ → ℕ → List ℕ → Reached Text → Type 0
    IsEnded more k before (Told (Reads chars end)) = Ends more k before chars end
    IsEnded more k before (Told HasBad) = Unit {0}
    IsEnded more k before (Told IsCut) = Unit {0}
    IsEnded more k before (Told IsBoxed) = Unit {0}
    IsEnded more k before TooFar = Unit {0}
    IsEnded more k before Missing = Unit {0}

    -- one character more in front
    ended-more : (more k bytes c : ℕ) (before : List ℕ) → (small → IsScalar c) → 1 ≤ bytes → (near → k + bytes ≤ last) → 8 * (k + bytes) ≤ stop
        → (r : Reached Text) → IsEnded more (k + bytes) (before ++ c ∷ []) r → IsEnded (suc more) k before r
    ended-more more k bytes c before scalar some come inside (Told (Reads chars end)) is =
        let behind = is.behind in
        let within = is.inside in
        record {
          scalars = λ is_small all. is.scalars is_small (All-append IsScalar before (c ∷ []) all (All-cons IsScalar c [] (scalar is_small) (All-nil IsScalar)));
          behind = omega arith;
          come = λ is_near. (let there = come is_near in let then = is.come is_near in omega arith);
          inside = omega arith;
          whole = λ is_box reaches. is.whole is_box (omega arith);
          count = λ n is_counted. (let all = is.count n is_counted in let longer = length-append before (c ∷ []) in omega arith);
        }
    ended-more more k bytes c before scalar some come inside (Told HasBad) is = tt
    ended-more more k bytes c before scalar some come inside (Told IsCut) is = tt
    ended-more more k bytes c before scalar some come inside (Told IsBoxed) is = tt
    ended-more more k bytes c before scalar some come inside TooFar is = tt
    ended-more more k bytes c before scalar some come inside Missing is = tt

    -- the text ends here
    stands : (more k : ℕ) (chars : List ℕ) → (extent ≡ Box → stop / 8 ≤ k) → ((n : ℕ) → extent ≡ Characters n → more ≡ 0) → Ends more k chars chars k
    stands more k chars whole count = record {
      scalars = λ is_small all. all;
      behind = omega arith;
      come = λ is_near. omega arith;
      inside = omega arith;
      whole = λ is_box reaches. whole is_box;
      count = λ n is_counted. (let none = count n is_counted in omega arith);
    }

    past-ended : (more k : ℕ) (chars : List ℕ) (e : Extent) → extent ≡ e → stop / 8 ≤ k → IsEnded more k chars (Told (past_box e chars k))
    past-ended more k chars Box is past = stands more k chars (λ is_box. past) (λ n is_counted. absurd (cc))
    past-ended more k chars (Characters n) is past = tt
    past-ended more k chars Front is past = stands more k chars (λ is_box. past) (λ n is_counted. absurd (cc))

    cut-ended : (more k : ℕ) (chars : List ℕ) (e : Extent) → extent ≡ e → IsEnded more k chars (Told (past_data e chars k))
    cut-ended more k chars Box is = tt
    cut-ended more k chars (Characters n) is = tt
    cut-ended more k chars Front is = stands more k chars (λ is_box. absurd (cc)) (λ n is_counted. absurd (cc))

    bad-ended : (more k : ℕ) (chars : List ℕ) (e : Extent) → extent ≡ e → IsEnded more k chars (Told (at_bad e chars k))
    bad-ended more k chars Box is = tt
    bad-ended more k chars (Characters n) is = tt
    bad-ended more k chars Front is = stands more k chars (λ is_box. absurd (cc)) (λ n is_counted. absurd (cc))

    end-ended : (more k : ℕ) (chars : List ℕ) (b : Bool) → lies_in stop k ≡ b
        → IsEnded more k chars (Told (cond b (past_data extent chars k) (past_box extent chars k)))
    end-ended more k chars true is = cut-ended more k chars extent refl
    end-ended more k chars false is =
        let past = leb-false _ _ is in
        past-ended more k chars extent refl (omega arith)

    scalar-bad : IsScalar 0xFFFD
    scalar-bad = refl

    piece-ended : (more k : ℕ) (chars : List ℕ) (shown : Shown k) (u : Tally)
        → ((c bytes : ℕ) → IsEnded more (k + bytes) (chars ++ c ∷ []) (ask look (going more (chars ++ c ∷ []) (k + bytes)) u).reached)
        → (r : Reached Piece) → Lies look small near stop last k shown r
        → IsEnded (suc more) k chars (go_on look (going_on more chars k) r u).reached
    piece-ended more k chars shown u then (Told (Holds c bytes)) lies =
        ended-more more k bytes c chars lies.0 lies.1 lies.2 lies.3 _ (then c bytes)
    piece-ended more k chars shown u then (Told (Broken bytes)) lies = replaced replaces
      where
        replaced : (b : Bool) → IsEnded (suc more) k chars (ask look (cond b (going more (chars ++ 0xFFFD ∷ []) (k + bytes)) (Answer (at_bad extent chars k))) u).reached
        replaced true = ended-more more k bytes 0xFFFD chars (λ is_small. scalar-bad) lies.0 lies.1 lies.2 _ (then 0xFFFD bytes)
        replaced false = bad-ended (suc more) k chars extent refl
    piece-ended more k chars shown u then (Told NoMore) lies = end-ended (suc more) k chars (lies_in stop k) refl
    piece-ended more k chars shown u then TooFar lies = tt
    piece-ended more k chars shown u then Missing lies = tt

    going-ended : (more k : ℕ) (chars : List ℕ) (shown : Shown k) (u : Tally) → IsEnded more k chars (ask look (going more chars k) u).reached
    going-ended zero k chars shown u =
        record {
          scalars = λ is_small all. all;
          behind = omega arith;
          come = λ is_near. omega arith;
          inside = omega arith;
          whole = λ is_box reaches. omega arith;
          count = λ n is_counted. omega arith;
        }
    going-ended (suc more) k chars shown u =
        subst (λ (r : Reading Text). IsEnded (suc more) k chars r.reached) (sym (ask-then look (going_on more chars k) (unit_at enc stop k) u))
        (piece-ended more k chars shown (ask look (unit_at enc stop k) u).tally
        (λ c bytes. going-ended more (k + bytes) (chars ++ c ∷ []) (λ j b behind is. shown j b (omega arith) is) (ask look (unit_at enc stop k) u).tally)
        (ask look (unit_at enc stop k) u).reached (unit-lies look small near stop last k shown enc u))

    ended-told : (more k : ℕ) (before chars : List ℕ) (end : ℕ) (r : Reached Text) → r ≡ Told (Reads chars end) → IsEnded more k before r → Ends more k before chars end
    ended-told more k before chars end r is ends = subst (λ (x : Reached Text). IsEnded more k before x) is ends

    pub text-ends : (k : ℕ) (shown : Shown k) (t : Tally) (chars : List ℕ) (end : ℕ)
        → (ask look (text_at enc replaces extent stop k) t).reached ≡ Told (Reads chars end) → Ends (most_of extent stop k) k [] chars end
    text-ends k shown t chars end is =
        ended-told (most_of extent stop k) k [] chars end _ is (going-ended (most_of extent stop k) k [] shown t)

  -- a text that is read lies in what was seen, and in its box
  pub text-lies : (look : ℕ → Seen) (last k : ℕ) (t : Tally) (chars : List ℕ) (end : ℕ)
      → ((j b : ℕ) → k ≤ j → look j ≡ Byte b → j + 1 ≤ last)
      → (ask look (text_at enc replaces extent stop k) t).reached ≡ Told (Reads chars end) → IsRead extent stop last k chars end
  text-lies look last k t chars end shown is =
      let ends = text-ends look ⊥ (Unit {0}) last k (λ j b behind seen. ((λ never. absurd never), (λ always. shown j b behind seen))) t chars end is in
      record {
        behind = ends.behind;
        come = ends.come tt;
        inside = ends.inside;
        whole = λ is_box. ends.whole is_box (reaches extent is_box);
        count = λ n is_counted. ends.count n is_counted ∙ counted extent n is_counted;
      }
    where
      reaches : (e : Extent) → e ≡ Box → stop / 8 ≤ k + most_of e stop k
      reaches Box is_box = omega arith
      reaches (Characters n) is_box = absurd (cc)
      reaches Front is_box = absurd (cc)

      counted : (e : Extent) (n : ℕ) → e ≡ Characters n → 0 + most_of e stop k ≡ n
      counted Box n is_counted = absurd (cc)
      counted (Characters m) n is_counted = let same : m ≡ n = cc in omega arith
      counted Front n is_counted = absurd (cc)

  -- and its characters are characters, where the bytes are bytes
  pub text-scalars : (look : ℕ → Seen) (k : ℕ) (t : Tally) (chars : List ℕ) (end : ℕ)
      → ((j b : ℕ) → k ≤ j → look j ≡ Byte b → b < 256)
      → (ask look (text_at enc replaces extent stop k) t).reached ≡ Told (Reads chars end) → All IsScalar chars
  text-scalars look k t chars end shown is =
      (text-ends look (Unit {0}) ⊥ 0 k (λ j b behind seen. ((λ always. shown j b behind seen), (λ never. absurd never))) t chars end is).scalars tt (All-nil IsScalar)
