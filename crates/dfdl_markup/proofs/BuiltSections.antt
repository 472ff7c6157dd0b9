-- What the text of a section adds to the innermost open element.
use Rattle.std.proofs.Common.{◌≡◌, ◌≢◌, ℕ, zero, suc, ◌+◌, ◌<◌, ◌≤◌, ◌==◌, ◌&&◌, ◌⊎◌, Bool, true}
use Rattle.std.proofs.Common.{false, List, [], ◌∷◌, ◌++◌, if◌then◌else◌, replicate, Ok, refl, ap}
use Rattle.std.proofs.Common.{ap₂, sym, subst, ◌∙◌, append_assoc, arith, inl, inr}
use Rattle.std.proofs.lemmas.Bool.{cases_Bool, eqb-true, ne_eqb, and_left, and_right}
use Rattle.dfdl_layers.specs.Tellers.{run}
use Rattle.dfdl_markup.specs.Rules.{HasNoEnd, brackets}
use Rattle.dfdl_markup.specs.Trees.{Node, size, line_read, lines_read}
use Rattle.dfdl_markup.specs.Machine.{Place, AtContent, AtSection, NothingAhead, Frame, State, step}
use Rattle.dfdl_markup.specs.Machine.{section_step}
use Rattle.dfdl_markup.specs.Building.{Closes, Reads, section_effect, Built, build, Reader}
use Rattle.dfdl_markup.specs.Building.{build_step, changed_in, with_more_text}
use Rattle.dfdl_markup.proofs.RunSteps.{state, if_false}
use Rattle.dfdl_markup.proofs.BuiltLists.{size_append, in_twice_text, in_no_text}
use Rattle.dfdl_markup.proofs.BuiltSteps.{MayBe, reader, one_runs, moved, moved_twice}
use Rattle.dfdl_markup.proofs.BuiltReferences.{if_false_may}

-- with more text in the innermost open element, so many bytes further on
abbrev pub texted : List ℕ → Bool → ℕ → Built → Built
texted text cr bytes b = record {
  nodes = changed_in (with_more_text text) b.ancestors b.nodes;
  ancestors = b.ancestors;
  behind_cr = cr;
  at = b.at + bytes;
  opened_at = b.opened_at;
}

built_of : (nodes : List Node) (at : ℕ) (cr : Bool) (b : Built) → Built
built_of nodes at cr b = record {
  nodes = nodes;
  ancestors = b.ancestors;
  behind_cr = cr;
  at = at;
  opened_at = b.opened_at;
}

pub texted_twice : (first second all : List ℕ) (a cr : Bool) (m n total : ℕ) (b : Built)
    → first ++ second ≡ all → m + n ≡ total
    → texted second cr n (texted first a m b) ≡ texted all cr total b
unfolding built_of
texted_twice first second all a cr m n total b is sum =
    let at : b.at + m + n ≡ b.at + total = omega (arith, sum) in
    ap₂ (λ nodes at. built_of nodes at cr b)
    (in_twice_text first second b.ancestors b.nodes
    ∙ ap (λ w. changed_in (with_more_text w) b.ancestors b.nodes) is) at

pub texted_behind : (text all : List ℕ) (cr : Bool) (m n total : ℕ) (b : Built) → text ≡ all
    → m + n ≡ total
    → texted text cr n (moved m b) ≡ texted all cr total b
unfolding built_of
texted_behind text all cr m n total b is sum =
    let at : b.at + m + n ≡ b.at + total = omega (arith, sum) in
    ap₂ (λ nodes at. built_of nodes at cr b)
    (ap (λ w. changed_in (with_more_text w) b.ancestors b.nodes) is) at

pub closed_behind : (bytes total : ℕ) (m : ℕ) (b : Built) → m + bytes ≡ total
    → build Closes bytes (moved m b) ≡ texted [] false total b
unfolding built_of
closed_behind bytes total m b sum =
    let at : b.at + m + bytes ≡ b.at + total = omega (arith, sum) in
    ap₂ (λ nodes at. built_of nodes at false b) (sym (in_no_text b.ancestors b.nodes)) at

-- and no more text
pub ending : (text all : List ℕ) (b : Built) (m total : ℕ) → text ≡ all → m + size (62 ∷ []) ≡ total
    → build Closes (size (62 ∷ [])) (texted text false m b) ≡ texted all false total b
unfolding built_of
ending text all b m total is sum =
    let at : b.at + m + size (62 ∷ []) ≡ b.at + total = omega (arith, sum) in
    ap₂ (λ nodes at. built_of nodes at false b)
    (ap (λ w. changed_in (with_more_text w) b.ancestors b.nodes) is) at

line_bracket : (cr : Bool) → line_read cr 93 ≡ 93 ∷ []
line_bracket true = refl
line_bracket false = refl

pub and_true : (b : Bool) → (b && true) ≡ b
and_true true = refl
and_true false = refl

and_false : (b : Bool) → (b && false) ≡ false
and_false true = refl
and_false false = refl

module _ (begun : ℕ) (frames : List Frame) where
  abbrev here : Place → State
  here place = state NothingAhead place begun frames

  abbrev end_of : List ℕ → List ℕ
  end_of text = text ++ 93 ∷ 93 ∷ 62 ∷ []

  -- what is read behind so many `]` up to the end of the section, those among it
  abbrev read_behind : ℕ → Bool → List ℕ → List ℕ
  read_behind before cr text = replicate before 93 ++ lines_read (cr && before == 0) text

  pub record SectionEnds (before : ℕ) (text : List ℕ) : Type 0 where
    pub runs : (b : Built) (tail : List ℕ) (last : Reader)
        → run build_step (reader (here (AtSection before)) b) (end_of text ++ tail) ≡ Ok last
        → run build_step (reader (here (AtContent 0))
        (texted (read_behind before b.behind_cr text) false (size (end_of text)) b)) tail ≡ Ok last

  -- one character of it
  bracket_stays : (before : ℕ) (b : Built) (tail : List ℕ) (last : Reader) → before < 2
      → run build_step (reader (here (AtSection before)) b) (93 ∷ tail) ≡ Ok last
      → run build_step (reader (here (AtSection (suc before))) (moved (size (93 ∷ [])) b)) tail ≡ Ok
      last
  unfolding step section_step
  bracket_stays zero b tail last less runs =
      one_runs (here (AtSection 0)) (here (AtSection 1)) 93 b tail last refl runs
  bracket_stays (suc zero) b tail last less runs =
      one_runs (here (AtSection 1)) (here (AtSection 2)) 93 b tail last refl runs
  bracket_stays (suc (suc n)) b tail last less runs = absurd (omega (arith, less))

  bracket_reads : (b : Built) (tail : List ℕ) (last : Reader)
      → run build_step (reader (here (AtSection 2)) b) (93 ∷ tail) ≡ Ok last
      → run build_step (reader (here (AtSection 2)) (texted (93 ∷ []) false (size (93 ∷ [])) b))
      tail ≡ Ok last
  unfolding step section_step
  bracket_reads b tail last runs =
      subst (λ w. run build_step (reader (here (AtSection 2)) (texted w false (size (93 ∷ [])) b))
      tail ≡ Ok last)
      (line_bracket (b.behind_cr && true))
      (one_runs (here (AtSection 2)) (here (AtSection 2)) 93 b tail last refl runs)

  section_closes : (b : Built) (tail : List ℕ) (last : Reader)
      → run build_step (reader (here (AtSection 2)) b) (62 ∷ tail) ≡ Ok last
      → run build_step (reader (here (AtContent 0)) (build Closes (size (62 ∷ [])) b)) tail ≡ Ok
      last
  unfolding step section_step
  section_closes b tail last runs = one_runs (here (AtSection 2)) (here (AtContent 0)) 62 b tail
      last refl runs

  not_end : (before c : ℕ) → (before ≡ 2 → c ≢ 62) → (before == 2 && c == 62) ≡ false
  not_end before c apart = by_test (cases_Bool (before == 2))
    where
      by_test : ((before == 2) ≡ true) ⊎ ((before == 2) ≡ false) → (before == 2 && c == 62) ≡ false
      by_test (inl e) = and_right (before == 2) (c == 62)
          (ne_eqb c 62 (apart (eqb-true before 2 e)))
      by_test (inr e) = and_left (before == 2) (c == 62) e

  other_effect : (before c : ℕ) → (before ≡ 2 → c ≢ 62) → (c == 93) ≡ false
      → section_effect before c ≡ Reads before c
  other_effect before c apart other =
      if_false (before == 2 && c == 62) _ _ (not_end before c apart) ∙ if_false (c == 93) _ _ other

  other_may : (before c : ℕ) → (before ≡ 2 → c ≢ 62) → (c == 93) ≡ false
      → MayBe (step (here (AtSection before)) c) (here (AtSection 0))
  unfolding step section_step
  other_may before c apart other =
      if_false_may (before == 2 && c == 62) _ _ _ (not_end before c apart)
      (ap (λ n. here (AtSection n)) (if_false (c == 93) (if before == 0 then 1 else 2) 0 other))

  other_reads : (before c : ℕ) (b : Built) (tail : List ℕ) (last : Reader) → (before ≡ 2 → c ≢ 62)
      → (c == 93) ≡ false
      → run build_step (reader (here (AtSection before)) b) (c ∷ tail) ≡ Ok last
      → run build_step (reader (here (AtSection 0))
      (texted (replicate before 93 ++ line_read (b.behind_cr && before == 0) c) (c == 13)
      (size (c ∷ [])) b))
      tail ≡ Ok last
  other_reads before c b tail last apart other runs =
      subst (λ e. run build_step (reader (here (AtSection 0)) (build e (size (c ∷ [])) b)) tail ≡ Ok
      last)
      (other_effect before c apart other)
      (one_runs (here (AtSection before)) (here (AtSection 0)) c b tail last
      (other_may before c apart other) runs)

  -- its end, behind none, one or two `]`
  end_behind : (before : ℕ) → before ≤ 2 → SectionEnds before []
  end_behind zero most = record {
    runs = λ b tail last runs.
        subst (λ w. run build_step (reader (here (AtContent 0)) w) tail ≡ Ok last)
        (ap (λ w. build Closes (size (62 ∷ [])) w)
        (moved_twice (size (93 ∷ [])) (size (93 ∷ [])) (size (93 ∷ 93 ∷ [])) b
        (sym (size_append (93 ∷ []) (93 ∷ []))))
        ∙ closed_behind (size (62 ∷ [])) (size (end_of [])) (size (93 ∷ 93 ∷ [])) b
        (sym (size_append (93 ∷ 93 ∷ []) (62 ∷ []))))
        (section_closes (moved (size (93 ∷ [])) (moved (size (93 ∷ [])) b)) tail last
        (bracket_stays 1 (moved (size (93 ∷ [])) b) (62 ∷ tail) last (omega arith)
        (bracket_stays 0 b (93 ∷ 62 ∷ tail) last (omega arith) runs)));
  }
  end_behind (suc zero) most = record {
    runs = λ b tail last runs.
        subst (λ w. run build_step (reader (here (AtContent 0)) w) tail ≡ Ok last)
        (ending (93 ∷ []) (93 ∷ []) (moved (size (93 ∷ [])) b) (size (93 ∷ []))
        (size (93 ∷ 62 ∷ [])) refl
        (sym (size_append (93 ∷ []) (62 ∷ [])))
        ∙ texted_behind (93 ∷ []) (93 ∷ []) false (size (93 ∷ [])) (size (93 ∷ 62 ∷ []))
        (size (end_of [])) b refl
        (sym (size_append (93 ∷ []) (93 ∷ 62 ∷ []))))
        (section_closes (texted (93 ∷ []) false (size (93 ∷ [])) (moved (size (93 ∷ [])) b)) tail
        last
        (bracket_reads (moved (size (93 ∷ [])) b) (62 ∷ tail) last
        (bracket_stays 1 b (93 ∷ 62 ∷ tail) last (omega arith) runs)));
  }
  end_behind (suc (suc zero)) most = record {
    runs = λ b tail last runs.
        subst (λ w. run build_step (reader (here (AtContent 0)) w) tail ≡ Ok last)
        (ending (93 ∷ []) (93 ∷ []) (texted (93 ∷ []) false (size (93 ∷ [])) b) (size (93 ∷ []))
        (size (93 ∷ 62 ∷ [])) refl
        (sym (size_append (93 ∷ []) (62 ∷ [])))
        ∙ texted_twice (93 ∷ []) (93 ∷ []) (93 ∷ 93 ∷ []) false false (size (93 ∷ []))
        (size (93 ∷ 62 ∷ [])) (size (end_of [])) b refl
        (sym (size_append (93 ∷ []) (93 ∷ 62 ∷ []))))
        (section_closes (texted (93 ∷ []) false (size (93 ∷ []))
        (texted (93 ∷ []) false (size (93 ∷ [])) b)) tail last
        (bracket_reads (texted (93 ∷ []) false (size (93 ∷ [])) b) (62 ∷ tail) last
        (bracket_reads b (93 ∷ 62 ∷ tail) last runs)));
  }
  end_behind (suc (suc (suc n))) most = absurd (omega (arith, most))

  -- a bracket in it
  bracket_behind : (before : ℕ) (text : List ℕ) → before ≤ 2 → SectionEnds (brackets before 93) text
      → SectionEnds before (93 ∷ text)
  bracket_behind zero text most more = record {
    runs = λ b tail last runs.
        subst (λ w. run build_step (reader (here (AtContent 0)) w) tail ≡ Ok last)
        (texted_behind (read_behind 1 b.behind_cr text) (read_behind 0 b.behind_cr (93 ∷ text))
        false
        (size (93 ∷ [])) (size (end_of text)) (size (end_of (93 ∷ text))) b
        (ap₂ (λ front cr. front ++ lines_read cr text) (sym (line_bracket (b.behind_cr && true)))
        (and_false b.behind_cr))
        (sym (size_append (93 ∷ []) (end_of text))))
        (more.runs (moved (size (93 ∷ [])) b) tail last
        (bracket_stays 0 b (end_of text ++ tail) last (omega arith) runs));
  }
  bracket_behind (suc zero) text most more = record {
    runs = λ b tail last runs.
        subst (λ w. run build_step (reader (here (AtContent 0)) w) tail ≡ Ok last)
        (texted_behind (read_behind 2 b.behind_cr text) (read_behind 1 b.behind_cr (93 ∷ text))
        false
        (size (93 ∷ [])) (size (end_of text)) (size (end_of (93 ∷ text))) b
        (ap₂ (λ front cr. 93 ∷ (front ++ lines_read cr text))
        (sym (line_bracket (b.behind_cr && false))) (and_false b.behind_cr))
        (sym (size_append (93 ∷ []) (end_of text))))
        (more.runs (moved (size (93 ∷ [])) b) tail last
        (bracket_stays 1 b (end_of text ++ tail) last (omega arith) runs));
  }
  bracket_behind (suc (suc zero)) text most more = record {
    runs = λ b tail last runs.
        subst (λ w. run build_step (reader (here (AtContent 0)) w) tail ≡ Ok last)
        (texted_twice (93 ∷ []) (read_behind 2 false text) (read_behind 2 b.behind_cr (93 ∷ text))
        false false
        (size (93 ∷ [])) (size (end_of text)) (size (end_of (93 ∷ text))) b
        (ap (λ front. 93 ∷ 93 ∷ (front ++ lines_read false text))
        (sym (line_bracket (b.behind_cr && false))))
        (sym (size_append (93 ∷ []) (end_of text))))
        (more.runs (texted (93 ∷ []) false (size (93 ∷ [])) b) tail last
        (bracket_reads b (end_of text ++ tail) last runs));
  }
  bracket_behind (suc (suc (suc n))) text most more = absurd (omega (arith, most))

  other_behind : (before c : ℕ) (text : List ℕ) → (before ≡ 2 → c ≢ 62) → (c == 93) ≡ false
      → SectionEnds 0 text → SectionEnds before (c ∷ text)
  other_behind before c text apart other more = record {
    runs = λ b tail last runs.
        let front : List ℕ = replicate before 93 ++ line_read (b.behind_cr && before == 0) c in
        subst (λ w. run build_step (reader (here (AtContent 0)) w) tail ≡ Ok last)
        (texted_twice front (read_behind 0 (c == 13) text)
        (read_behind before b.behind_cr (c ∷ text))
        (c == 13) false (size (c ∷ [])) (size (end_of text)) (size (end_of (c ∷ text))) b
        (ap (λ cr. front ++ lines_read cr text) (and_true (c == 13))
        ∙ append_assoc (replicate before 93) (line_read (b.behind_cr && before == 0) c)
        (lines_read (c == 13) text))
        (sym (size_append (c ∷ []) (end_of text))))
        (more.runs (texted front (c == 13) (size (c ∷ [])) b) tail last
        (other_reads before c b (end_of text ++ tail) last apart other runs));
  }

  few : (before c : ℕ) → before ≤ 2 → brackets before c ≤ 2
  few before c most = by_test (cases_Bool (c == 93)) (cases_Bool (before == 0))
    where
      by_test : ((c == 93) ≡ true) ⊎ ((c == 93) ≡ false)
          → ((before == 0) ≡ true) ⊎ ((before == 0) ≡ false)
          → brackets before c ≤ 2
      by_test (inr e) f = rw e (omega arith)
      by_test (inl e) (inl f) = rw (e, f) (omega arith)
      by_test (inl e) (inr f) = rw (e, f) (omega arith)

  pub section_runs : (before : ℕ) (text : List ℕ) → before ≤ 2 → HasNoEnd before text
      → SectionEnds before text
  section_runs before [] most is = end_behind before most
  section_runs before (c ∷ text) most is =
      by_test (cases_Bool (c == 93)) (section_runs (brackets before c) text (few before c most)
      is.1)
    where
      by_test : ((c == 93) ≡ true) ⊎ ((c == 93) ≡ false) → SectionEnds (brackets before c) text
          → SectionEnds before (c ∷ text)
      by_test (inl e) more =
          let same : c ≡ 93 = eqb-true c 93 e in
          subst (λ d. SectionEnds before (d ∷ text)) (sym same)
          (bracket_behind before text most (subst (λ d. SectionEnds (brackets before d) text) same
          more))
      by_test (inr e) more =
          other_behind before c text is.0 e
          (subst (λ n. SectionEnds n text) (if_false (c == 93) (if before == 0 then 1 else 2) 0 e)
          more)
