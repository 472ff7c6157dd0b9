-- Runs of the reader that builds the tree, over pieces of markup by which the tree stays as it is.
use Rattle.std.proofs.Common.{◌≡◌, ℕ, ◌+◌, Bool, true, false, if◌then◌else◌, List, [], ◌∷◌, ◌++◌}
use Rattle.std.proofs.Common.{Result, Ok, Err, refl, ap, sym, subst, arith, append_assoc}
use Rattle.dfdl_layers.specs.Tellers.{go_on, run}
use Rattle.dfdl_markup.specs.Trees.{size}
use Rattle.dfdl_markup.specs.Machine.{State, step}
use Rattle.dfdl_markup.specs.Building.{Stays, effect_at, Built, build, Reader, with_built}
use Rattle.dfdl_markup.specs.Building.{build_step}
use Rattle.dfdl_markup.proofs.BuiltLists.{size_append}

-- the answer is this state, or a rule
abbrev pub MayBe : Result State ℕ → State → Type 0
MayBe (Ok s) t = s ≡ t
MayBe (Err rule) t = Unit {0}

pub is_ok : (a : Result State ℕ) (t : State) → a ≡ Ok t → MayBe a t
is_ok a t is = subst (λ r. MayBe r t) (sym is) refl

pub if_may : (test : Bool) (x y : Result State ℕ) (t : State)
    → (test ≡ true → MayBe x t) → (test ≡ false → MayBe y t) → MayBe (if test then x else y) t
if_may true x y t yea nay = yea refl
if_may false x y t yea nay = nay refl

abbrev pub reader : State → Built → Reader
reader s b = record { state = s; built = b }

-- the answer of a step with what is built
by_answer : (a : Result State ℕ) (t : State) (b : Built) (tail : List ℕ) (last : Reader) → MayBe a t
    → go_on (λ r. run build_step r tail) (with_built b a) ≡ Ok last
    → run build_step (reader t b) tail ≡ Ok last
by_answer (Ok s) t b tail last is runs =
    subst (λ w. run build_step (reader w b) tail ≡ Ok last) is runs
by_answer (Err rule) t b tail last is runs = absurd (cc)

-- behind one character
pub one_runs : (s t : State) (c : ℕ) (b : Built) (tail : List ℕ) (last : Reader)
    → MayBe (step s c) t → run build_step (reader s b) (c ∷ tail) ≡ Ok last
    → run build_step (reader t (build (effect_at s.place s c) (size (c ∷ [])) b)) tail ≡ Ok last
one_runs s t c b tail last may runs =
    by_answer (step s c) t (build (effect_at s.place s c) (size (c ∷ [])) b) tail last may runs

-- so many bytes further on
abbrev pub moved : ℕ → Built → Built
moved bytes b = build Stays bytes b

-- a run over the piece from one state goes on from the other, with the tree that was there
pub record Through (s : State) (piece : List ℕ) (t : State) : Type 0 where
  pub runs : (b : Built) (tail : List ℕ) (last : Reader)
      → run build_step (reader s b) (piece ++ tail) ≡ Ok last
      → run build_step (reader t (moved (size piece) b)) tail ≡ Ok last

moved_to : (b : Built) (at : ℕ) → Built
moved_to b at = record {
  nodes = b.nodes;
  ancestors = b.ancestors;
  behind_cr = b.behind_cr;
  at = at;
  opened_at = b.opened_at;
}

pub moved_twice : (m n total : ℕ) (b : Built) → m + n ≡ total → moved n (moved m b) ≡ moved total b
unfolding moved_to
moved_twice m n total b is =
    let sum : b.at + m + n ≡ b.at + total = omega (arith, is) in ap (moved_to b) sum

moved_nothing : (b : Built) → moved 0 b ≡ b
unfolding moved_to
moved_nothing b = let sum : b.at + 0 ≡ b.at = omega arith in ap (moved_to b) sum

pub through_nothing : (s : State) → Through s [] s
through_nothing s = record {
  runs = λ b tail last runs.
      subst (λ w. run build_step (reader s w) tail ≡ Ok last) (sym (moved_nothing b)) runs;
}

pub through_both : (s t u : State) (front behind : List ℕ) → Through s front t → Through t behind u
    → Through s (front ++ behind) u
through_both s t u front behind first second = record {
  runs = λ b tail last runs.
      subst (λ w. run build_step (reader u w) tail ≡ Ok last)
      (moved_twice (size front) (size behind) (size (front ++ behind)) b
      (sym (size_append front behind)))
      (second.runs (moved (size front) b) tail last
      (first.runs b (behind ++ tail) last
      (subst (λ w. run build_step (reader s b) w ≡ Ok last) (append_assoc front behind tail)
      runs)));
}

pub through_one : (s t : State) (c : ℕ) → MayBe (step s c) t → effect_at s.place s c ≡ Stays
    → Through s (c ∷ []) t
through_one s t c may stays = record {
  runs = λ b tail last runs.
      subst (λ e. run build_step (reader t (build e (size (c ∷ [])) b)) tail ≡ Ok last) stays
      (one_runs s t c b tail last may runs);
}

pub through_more : (s t u : State) (c : ℕ) (behind : List ℕ) → MayBe (step s c) t
    → effect_at s.place s c ≡ Stays → Through t behind u → Through s (c ∷ behind) u
through_more s t u c behind may stays more =
    through_both s t u (c ∷ []) behind (through_one s t c may stays) more
