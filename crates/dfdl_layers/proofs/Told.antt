-- What follows where a machine tells the rules of a language.
use Rattle.std.proofs.Common.{◌≡◌, ℕ, ◌+◌, ◌<◌, ◌≤◌, List, [], ◌∷◌, ◌++◌, length, take, drop}
use Rattle.std.proofs.Common.{get_or, Bool, true, false, refl, sym, ap, subst, ◌∙◌, append_assoc}
use Rattle.std.proofs.Common.{arith, Result, Ok, Err}
use Rattle.std.proofs.lemmas.List.{append-nil, take_more, take_all, take-append-drop}
use Rattle.dfdl_fronts.specs.Fronts.{IsFront}
use Rattle.dfdl_layers.specs.Causes.{IsRefused}
use Rattle.dfdl_layers.specs.Tellers.{go_on, run, Keeps, IsTeller}
use Rattle.dfdl_layers.proofs.Runs.{run-append, run_through, go_on_ok}

-- a run that stops in a front stops in all that begins so
stops_at : {S A : Type 0} (step : S → A → Result S ℕ) (start : S) (items rest : List A) (m : ℕ)
    → run step start items ≡ Err m
    → run step start (items ++ rest) ≡ Err m
stops_at step start items rest m is =
    run-append step items rest start ∙ ap (λ o. go_on (λ u. run step u rest) o) is

not_both : {S : Type 0} (accepts : S → Bool) (o : Result S ℕ) (s t : S) → o ≡ Ok s
    → accepts s ≡ false → o ≡ Ok t → accepts t ≡ true → ⊥
not_both accepts o s t is refuses other takes = cc

module _ {S A : Type 0} {step : S → A → Result S ℕ} {start : S} {accepts : S → Bool} {all : ℕ}
    {Good : A → Type 0} {Sound : S → Type 0} {Rest : ℕ → S → List A → Type 0} where
  -- a run keeps soundness
  pub sound_after : IsTeller step start accepts all Good Sound Rest → (items : List A) (s t : S)
      → Sound s → run step s items ≡ Ok t → Sound t
  sound_after teller [] s t sound is = let same : s ≡ t = cc in subst Sound same sound
  sound_after teller (a ∷ items) s t sound is =
      go_on_ok (λ u. run step u items) (step s a) t is
      (λ u goes more. sound_after teller items u t (teller.goes s u a sound goes) more)

  -- what may follow behind a run may follow its items before it
  pub back_from : IsTeller step start accepts all Good Sound Rest
      → (n : ℕ) (items rest : List A) (s t : S) → Sound s → run step s items ≡ Ok t → Rest n t rest
      → Rest n s (items ++ rest)
  back_from teller n [] rest s t sound is comes = let same : t ≡ s = cc in
      subst (λ u. Rest n u rest) same comes
  back_from teller n (a ∷ items) rest s t sound is comes =
      go_on_ok (λ u. run step u items) (step s a) t is
      (λ u goes more. teller.back n s u a (items ++ rest) sound goes
      (back_from teller n items rest u t (teller.goes s u a sound goes) more comes))

  -- each list that is run through is a front
  pub front : IsTeller step start accepts all Good Sound Rest → (items : List A) (s : S)
      → run step start items ≡ Ok s → IsFront (Rest all start) items
  front teller items s is =
      let more = teller.live s (sound_after teller items start s teller.begins is) in
      (more.0, back_from teller all items more.0 start s teller.begins is more.2)

  -- a run that stops in a front accepts nothing that begins so
  stuck : IsTeller step start accepts all Good Sound Rest → (items : List A) (m : ℕ)
      → run step start items ≡ Err m → IsFront (Rest all start) items → ⊥
  stuck teller items m is text =
      let found = teller.full (items ++ text.0) text.1 in
      let other : run step start (items ++ text.0) ≡ Err m =
      stops_at step start items text.0 m is in
      let same = found.1 in cc

  -- and nothing that keeps the rule that it tells begins so
  not_kept : IsTeller step start accepts all Good Sound Rest → (items : List A) (m : ℕ)
      → run step start items ≡ Err m → IsFront (Rest (m + 1) start) items → ⊥
  not_kept teller items m is text =
      let less : m + 1 ≤ m =
      subst (λ o. Keeps (m + 1) o) (stops_at step start items text.0 m is)
      (teller.keeps (m + 1) (items ++ text.0) text.1) in
      absurd (omega arith)

  -- the place and the rule of an item that is refused
  pub refused_at : IsTeller step start accepts all Good Sound Rest
      → (items : List A) (i : ℕ) (s : S) (d : A) (m : ℕ) → i < length items
      → run step start (take i items) ≡ Ok s → Good (get_or items i d)
      → step s (get_or items i d) ≡ Err m → IsRefused (λ n. Rest n start) all items i m
  refused_at teller items i s d m within is good tells =
      let stopped : run step start (take (i + 1) items) ≡ Err m =
      run_through step start items i s d within is ∙ tells in
      let more =
      teller.tells s (get_or items i d) m
      (sound_after teller (take i items) start s teller.begins is) good tells in
      let kept : Rest m start (take i items ++ (get_or items i d ∷ more.0)) =
      back_from teller m (take i items)
      (get_or items i d ∷ more.0) start s teller.begins is more.2 in
      record {
        place = record {
          within = omega arith;
          before = front teller (take i items) s is;
          stops = λ less. stuck teller (take (i + 1) items) m stopped;
          no_text =
              λ text. stuck teller (take (i + 1) items) m stopped (
                drop (i + 1) items,
                subst (Rest all start) (sym (take-append-drop (i + 1) items)) text,
              );
        };
        breaks = λ less. record {
          kept = (
            more.0,
            subst (Rest m start)
                (sym (ap (λ l. l ++ more.0) (take_more items i d within)
                ∙ append_assoc (take i items) (get_or items i d ∷ []) more.0)) kept,
          );
          broken = not_kept teller (take (i + 1) items) m stopped;
        };
        ends = λ same. absurd (omega arith);
      }

  -- the place and the rule where the items end inside a text
  pub refused_end : IsTeller step start accepts all Good Sound Rest → (items : List A) (s : S)
      → run step start items ≡ Ok s → accepts s ≡ false
      → IsRefused (λ n. Rest n start) all items (length items) all
  refused_end teller items s is refuses =
      record {
        place = record {
          within = omega arith;
          before = subst (λ l. IsFront (Rest all start) l)
              (sym (take_all (length items) items (omega arith))) (front teller items s is);
          stops = λ less. absurd (omega (arith, less));
          no_text =
              λ text. (let found = teller.full items text in
              not_both accepts (run step start items) s found.0 is refuses found.1 found.2);
        };
        breaks = λ less. absurd (omega (arith, less));
        ends = λ same. refl;
      }

  -- the items are a text where the machine accepts behind them
  pub text_end : IsTeller step start accepts all Good Sound Rest → (items : List A) (s : S)
      → run step start items ≡ Ok s → accepts s ≡ true → Rest all start items
  text_end teller items s is takes =
      subst (λ l. Rest all start l) (append-nil items)
      (back_from teller all items [] start s teller.begins is
      (teller.done s (sound_after teller items start s teller.begins is) takes))
