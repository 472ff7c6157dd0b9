-- The bytes of a document have one tree, by what the reader tells of them.
use Rattle.std.proofs.Common.{◌≡◌, ℕ, suc, ◌<◌, List, [], ◌∷◌, length, take, get_or, refl, sym, ap, ◌∙◌, arith, Bool, true, false, Result, Ok, Err}
use Rattle.dfdl_layers.specs.Bytes.{Inside}
use Rattle.dfdl_layers.specs.Causes.{IsRefused}
use Rattle.dfdl_layers.specs.Tellers.{go_on, run}
use Rattle.dfdl_markup.specs.Building.{Reader, read_accepts, read_start, read_step}
use Rattle.dfdl_markup.specs.Documents.{IsRefusedBy, IsTreeOf, KeepsRules, cause_number}
use Rattle.dfdl_markup.specs.Trees.{Node}

-- where a run stops: the place, and the state before it
record IsStop {S : Type 0} (step : S → ℕ → Result S ℕ) (s : S) (items : List ℕ) (m : ℕ) : Type 0 where
  at : ℕ
  state : S
  within : at < length items
  before : run step s (take at items) ≡ Ok state
  stops : step state (get_or items at 0) ≡ Err m

-- a run that tells a rule stops
stop_of : {S : Type 0} (step : S → ℕ → Result S ℕ) (items : List ℕ) (s : S) (m : ℕ)
    → run step s items ≡ Err m → IsStop step s items m
stop_of step [] s m is = absurd cc
stop_of {S} step (a ∷ items) s m is = cases (step s a) refl (λ u told. stop_of step items u m told)
  where
    cases : (o : Result S ℕ) → step s a ≡ o → ((u : S) → run step u items ≡ Err m → IsStop step u items m)
        → IsStop step s (a ∷ items) m
    cases (Ok u) goes rest =
        let later = rest u (sym (ap (go_on (λ t. run step t items)) goes) ∙ is) in
        record {
          at = suc later.at;
          state = later.state;
          within = omega (arith, later.within);
          before = ap (go_on (λ t. run step t (take later.at items))) goes ∙ later.before;
          stops = later.stops;
        }
    cases (Err n) goes rest =
        record {
          at = 0;
          state = s;
          within = omega arith;
          before = refl;
          stops = goes ∙ (sym (ap (go_on (λ t. run step t items)) goes) ∙ is);
        }

refused_as : (bytes : List ℕ) (at rule : ℕ) → IsRefused KeepsRules 13 bytes at rule
    → IsRefusedBy bytes at (cause_number bytes at rule)
refused_as bytes at rule refused = record { rule = rule; refused = refused; told = refl }

module _ (refuses : (bytes : List ℕ) (at : ℕ) (i : Inside Reader) (rule : ℕ) → at < length bytes
    → run read_step read_start (take at bytes) ≡ Ok i
    → read_step i (get_or bytes at 0) ≡ Err rule
    → IsRefused KeepsRules 13 bytes at rule)
    (ends : (bytes : List ℕ) (i : Inside Reader) → run read_step read_start bytes ≡ Ok i
    → read_accepts i ≡ false → IsRefused KeepsRules 13 bytes (length bytes) 13)
    (only : (bytes : List ℕ) (i : Inside Reader) → run read_step read_start bytes ≡ Ok i
    → read_accepts i ≡ true → (nodes : List Node) → IsTreeOf bytes nodes
    → nodes ≡ i.state.built.nodes)
    (no_tree : (bytes : List ℕ) (at n : ℕ) (nodes : List Node) → IsRefusedBy bytes at n
    → IsTreeOf bytes nodes → ⊥) where
  pub one_tree : (bytes : List ℕ) (a b : List Node) → IsTreeOf bytes a → IsTreeOf bytes b → a ≡ b
  one_tree bytes a b first second = cases (run read_step read_start bytes) refl
    where
      accepted : (i : Inside Reader) → run read_step read_start bytes ≡ Ok i → (t : Bool)
          → read_accepts i ≡ t → a ≡ b
      accepted i is true takes = only bytes i is takes a first ∙ sym (only bytes i is takes b second)
      accepted i is false takes =
          absurd (no_tree bytes (length bytes) (cause_number bytes (length bytes) 13) a
          (refused_as bytes (length bytes) 13 (ends bytes i is takes)) first)

      cases : (o : Result (Inside Reader) ℕ) → run read_step read_start bytes ≡ o → a ≡ b
      cases (Ok i) is = accepted i is (read_accepts i) refl
      cases (Err m) is =
          let stop = stop_of read_step bytes read_start m is in
          absurd (no_tree bytes stop.at (cause_number bytes stop.at m) a
          (refused_as bytes stop.at m (refuses bytes stop.at stop.state m stop.within stop.before stop.stops)) first)
