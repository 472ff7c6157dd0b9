-- A step of a choice, or of an occurrence that is tried, does a part of what is ahead, and doesn't wait.
use Rattle.std.proofs.Common.{◌≡◌, ℕ, zero, suc, ◌+◌, ◌-◌, ◌<◌, nat_eq, List, ◌∷◌, drop, Bool, true, false, cond, Option, Some, None, All, ap, sym, subst, ◌∙◌, arith}
use Rattle.std.proofs.lemmas.Bool.Decides.{nat_tests}
use Rattle.std.specs.Prelude.{slice_get}
use Rattle.dfdl_bits.specs.Window.{Held}
use Rattle.dfdl_report.specs.declared.cause.ParseCause.{ParseCause}
use Rattle.dfdl_report.specs.declared.cause.ParseCause.TheVariants.{NoBranch}
use Rattle.dfdl_terms.specs.Rows.{Table}
use Rattle.dfdl_looks.specs.Tallies.{Tally, nothing, one_row}
use Rattle.dfdl_grammar.specs.declared.end.End.{End}
use Rattle.dfdl_grammar.specs.declared.end.End.TheVariants.{Done, Failed}
use Rattle.dfdl_grammar.specs.States.{Input, State}
use Rattle.dfdl_grammar.specs.Marks.{back, closed, is_settled, pointed, stays_at}
use Rattle.dfdl_grammar.specs.Outcomes.{Outcome, ended, spend}
use Rattle.dfdl_grammar.specs.Choices.{branches, or_branch}
use Rattle.dfdl_grammar.specs.Occurrences.{after_occurrence, as_tried, dropped, occurrences, occurring}
use Rattle.dfdl_grammar.specs.Rows.{below, meaning}
use Rattle.dfdl_grammar.proofs.Towers.{below-meaning}
use Rattle.dfdl_parse.specs.declared.frame.Frame.{Frame}
use Rattle.dfdl_parse.specs.declared.frame.Frame.TheVariants.{Occurrence}
use Rattle.dfdl_parse.specs.declared.frame.Focus.TheVariants.{Enter, Leave}
use Rattle.dfdl_parse.specs.Machines.{children_of}
use Rattle.dfdl_parse.specs.Moves.{Move, pass}
use Rattle.dfdl_parse.specs.Points.{branch_failed, occurrence_done, occurrence_failed, try_branch, try_occurrence}
use Rattle.dfdl_parse.specs.Ahead.{finish}
use Rattle.dfdl_parse.proofs.Lists.{all_at, drop_none, drop_some}
use Rattle.dfdl_parse.proofs.Finishes.{Does, after_nothing, finish-spend}

module _ (input : Input) (table : Table) where
  -- a branch of a choice, where a cost before it is given
  pub branch-ahead : (cost : Tally) (held : Held) (id place : ℕ) (rows : List ℕ) (child : Option ℕ) (k : List Frame) (s : State)
      → children_of (slice_get table.rows id) ≡ rows → All (λ c. c < id) rows → slice_get rows place ≡ child
      → Does input table (finish input table k (spend cost (branches (below input table id) (drop place rows) s))) (try_branch cost held id place child k s)
  unfolding finish
  branch-ahead cost held id place rows None k s same all is =
      ap (λ (ids : List ℕ). finish input table k (spend cost (branches (below input table id) ids s))) (drop_none rows place is)
      ∙ finish-spend input table k cost (ended (Failed NoBranch s.at) (closed s))
  branch-ahead cost held id place rows (Some child) k s same all is =
      let follows : List ℕ → Outcome → Outcome = λ ids o. or_branch o.end o (branches (below input table id) (drop (place + 1) ids)) in
      ap (λ (ids : List ℕ). finish input table k (spend cost (branches (below input table id) ids s))) (drop_some rows place child is)
      ∙ finish-spend input table k cost (follows rows (below input table id child s))
      ∙ ap (λ (o : Outcome). spend cost (finish input table k (follows rows o))) (below-meaning input table id child s (all_at id rows place child all is))
      ∙ ap (λ (ids : List ℕ). spend cost (finish input table k (follows ids (meaning input table child s)))) (sym same)

  -- a branch that has failed, whose point is resolved or not
  pub failed-branch-ahead : (held : Held) (id place : ℕ) (rows : List ℕ) (child : Option ℕ) (cause : ParseCause) (bit : ℕ) (k : List Frame) (s : State)
      → children_of (slice_get table.rows id) ≡ rows → All (λ c. c < id) rows → slice_get rows place ≡ child → (settled : Bool)
      → Does input table
      (finish input table k (cond settled (ended (Failed cause bit) (closed s)) (spend nothing (branches (below input table id) (drop place rows) (back s)))))
      (cond settled (pass nothing held (Leave (Failed cause bit)) k (closed s)) (try_branch nothing held id place child k (back s)))
  failed-branch-ahead held id place rows child cause bit k s same all is true = after_nothing input table k (ended (Failed cause bit) (closed s))
  failed-branch-ahead held id place rows child cause bit k s same all is false = branch-ahead nothing held id place rows child k (back s) same all is

  -- an occurrence, where a cost before it is given
  pub occurrence-ahead : (cost : Tally) (held : Held) (body : ℕ) (initiated : Bool) (left : ℕ) (k : List Frame) (s : State)
      → Does input table (finish input table k (spend cost (occurrences (occurring true (meaning input table body)) initiated left s))) (try_occurrence cost held body initiated left k s)
  unfolding finish occurrences
  occurrence-ahead cost held body initiated zero k s = finish-spend input table k cost (ended Done s)
  occurrence-ahead cost held body initiated (suc left) k s =
      let o : Outcome = occurring true (meaning input table body) (pointed initiated s) in
      let same : left ≡ suc left - 1 = omega arith in
      let some : nat_eq (suc left) 0 ≡ false = grind (arith, nat_tests) in
      subst (λ (none : Bool). Does input table (finish input table k (spend cost (occurrences (occurring true (meaning input table body)) initiated (suc left) s)))
      (cond none (pass cost held (Leave Done) k s) (pass cost held (Enter body) (Occurrence body initiated (suc left - 1) ∷ k) (as_tried (pointed initiated s))))) (sym some)
      (finish-spend input table k cost (after_occurrence o.end o (occurrences (occurring true (meaning input table body)) initiated left))
      ∙ ap (λ (n : ℕ). spend cost (finish input table k (after_occurrence o.end o (occurrences (occurring true (meaning input table body)) initiated n)))) same)

  -- the first of some occurrences
  pub first-ahead : (held : Held) (id body : ℕ) (initiated : Bool) (most : ℕ) (k : List Frame) (s : State) → body < id
      → Does input table (finish input table k (spend one_row (occurrences (occurring true (below input table id body)) initiated most s)))
      (try_occurrence one_row held body initiated most k s)
  first-ahead held id body initiated most k s less =
      let same : below input table id body ≡ meaning input table body = λ i t. below-meaning input table id body t less i in
      ap (λ (f : State → Outcome). finish input table k (spend one_row (occurrences (occurring true f) initiated most s))) same
      ∙ occurrence-ahead one_row held body initiated most k s

  -- an occurrence that is done
  pub passed-ahead : (held : Held) (body : ℕ) (initiated : Bool) (left : ℕ) (k : List Frame) (s : State) (stays : Bool)
      → Does input table
      (finish input table k (cond stays (ended Done (dropped s)) (spend nothing (occurrences (occurring true (meaning input table body)) initiated left (closed s)))))
      (cond stays (pass nothing held (Leave Done) k (dropped s)) (try_occurrence nothing held body initiated left k (closed s)))
  passed-ahead held body initiated left k s true = after_nothing input table k (ended Done (dropped s))
  passed-ahead held body initiated left k s false = occurrence-ahead nothing held body initiated left k (closed s)

  -- an occurrence that has failed, whose point is resolved or not
  pub failed-occurrence-ahead : (held : Held) (cause : ParseCause) (bit : ℕ) (k : List Frame) (s : State) (settled : Bool)
      → Does input table (finish input table k (cond settled (ended (Failed cause bit) (closed s)) (ended Done (dropped s))))
      (cond settled (pass nothing held (Leave (Failed cause bit)) k (closed s)) (pass nothing held (Leave Done) k (dropped s)))
  failed-occurrence-ahead held cause bit k s true = after_nothing input table k (ended (Failed cause bit) (closed s))
  failed-occurrence-ahead held cause bit k s false = after_nothing input table k (ended Done (dropped s))

module _ (held : Held) (k : List Frame) where
  pub branch-on : (cost : Tally) (id place : ℕ) (child : Option ℕ) (s : State) → (try_branch cost held id place child k s).waits ≡ true → ⊥
  branch-on cost id place None s waits = absurd (cc)
  branch-on cost id place (Some child) s waits = absurd (cc)

  either-on : (end : End) (s : State) (move : Move) → (move.waits ≡ true → ⊥) → (settled : Bool)
      → (cond settled (pass nothing held (Leave end) k (closed s)) move).waits ≡ true → ⊥
  either-on end s move on true waits = absurd (cc)
  either-on end s move on false waits = on waits

  pub failed-branch-on : (id place : ℕ) (child : Option ℕ) (end : End) (s : State) → (branch_failed held id place child end k s).waits ≡ true → ⊥
  failed-branch-on id place child end s waits =
      either-on end s (try_branch nothing held id place child k (back s)) (branch-on nothing id place child (back s)) (is_settled s.marks) waits

  begun-on : (cost : Tally) (body : ℕ) (initiated : Bool) (left : ℕ) (s : State) (none : Bool)
      → (cond none (pass cost held (Leave Done) k s) (pass cost held (Enter body) (Occurrence body initiated (left - 1) ∷ k) (as_tried (pointed initiated s)))).waits ≡ true → ⊥
  begun-on cost body initiated left s true waits = absurd (cc)
  begun-on cost body initiated left s false waits = absurd (cc)

  pub occurrence-on : (cost : Tally) (body : ℕ) (initiated : Bool) (left : ℕ) (s : State) → (try_occurrence cost held body initiated left k s).waits ≡ true → ⊥
  occurrence-on cost body initiated left s waits = begun-on cost body initiated left s (nat_eq left 0) waits

  passed-on : (body : ℕ) (initiated : Bool) (left : ℕ) (s : State) (stays : Bool)
      → (cond stays (pass nothing held (Leave Done) k (dropped s)) (try_occurrence nothing held body initiated left k (closed s))).waits ≡ true → ⊥
  passed-on body initiated left s true waits = absurd (cc)
  passed-on body initiated left s false waits = occurrence-on nothing body initiated left (closed s) waits

  pub occurrence-done-on : (body : ℕ) (initiated : Bool) (left : ℕ) (s : State) → (occurrence_done held body initiated left k s).waits ≡ true → ⊥
  occurrence-done-on body initiated left s waits = passed-on body initiated left s (stays_at s.marks s.at) waits

  pub failed-occurrence-on : (end : End) (s : State) → (occurrence_failed held end k s).waits ≡ true → ⊥
  failed-occurrence-on end s waits = either-on end s (pass nothing held (Leave Done) k (dropped s)) (λ same. absurd (cc)) (is_settled s.marks) waits
