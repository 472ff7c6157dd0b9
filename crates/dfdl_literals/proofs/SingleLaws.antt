-- What is found of one piece is what the literals of the text come to.
use Rattle.std.proofs.Common.{◌≡◌, ℕ, ◌+◌, ◌<◌, ◌≤◌, List, [], ◌∷◌, ◌++◌, length, drop, get_or, Option, Some, None, Bool, true, false, ◌==◌, ◌&&◌, cond, refl, sym, ap, ◌∙◌, arith, length-append, option_map}
use Rattle.std.proofs.lemmas.Bool.{eqb-true}
use Rattle.std.proofs.lemmas.List.{drop_more, drop_all}
use Rattle.std.specs.Option.{option_and_then}
use Rattle.dfdl_machines.specs.Machines.{run}
use Rattle.dfdl_forms.specs.declared.literals.Piece.{Piece}
use Rattle.dfdl_literals.specs.declared.scan.Mark.{Mark}
use Rattle.dfdl_literals.specs.declared.scan.Mark.TheVariants.{Whole, Name}
use Rattle.dfdl_literals.specs.declared.scan.Act.{Act}
use Rattle.dfdl_literals.specs.declared.scan.Act.TheVariants.{Move, Add, Close, Letter}
use Rattle.dfdl_literals.specs.declared.single.Found.{Found}
use Rattle.dfdl_literals.specs.declared.single.Found.TheVariants.{Blank, One, More}
use Rattle.dfdl_literals.specs.Names.{begins_name}
use Rattle.dfdl_literals.specs.Lists.{closed}
use Rattle.dfdl_literals.specs.Steps.{State, start, acted, act, step, accepts}
use Rattle.dfdl_literals.specs.Readings.{literals_reading, literals_whole}
use Rattle.dfdl_literals.specs.SingleSteps.{SingleState, single_start, found_more, single_acted, single_step, found_whole, found_text}

-- the loop over the characters

next_run : (e : Bool) (cs : List ℕ) (n c : ℕ) (s : SingleState) → n < length cs → c ≡ get_or cs n c
    → run (single_step e) s (drop n cs) ≡ option_and_then (λ t. run (single_step e) t (drop (n + 1) cs)) (single_step e s c)
next_run e cs n c s less is = ap (λ l. run (single_step e) s l) (drop_more cs n c less ∙ ap (λ d. d ∷ drop (n + 1) cs) (sym is))

pub stops : (e : Bool) (cs : List ℕ) (n c : ℕ) (s : SingleState) → n < length cs → c ≡ get_or cs n c → single_step e s c ≡ None
    → run (single_step e) s (drop n cs) ≡ run (single_step e) single_start cs → None ≡ found_text e cs
stops e cs n c s less is none whole_run =
    ap (λ o. option_and_then found_whole o)
    (sym (ap (λ o. option_and_then (λ t. run (single_step e) t (drop (n + 1) cs)) o) none) ∙ sym (next_run e cs n c s less is) ∙ whole_run)

pub goes_on : (e : Bool) (cs : List ℕ) (n c : ℕ) (s t : SingleState) → n < length cs → c ≡ get_or cs n c → single_step e s c ≡ Some t
    → run (single_step e) s (drop n cs) ≡ run (single_step e) single_start cs
    → run (single_step e) t (drop (n + 1) cs) ≡ run (single_step e) single_start cs
goes_on e cs n c s t less is some whole_run =
    sym (ap (λ o. option_and_then (λ u. run (single_step e) u (drop (n + 1) cs)) o) some) ∙ sym (next_run e cs n c s less is) ∙ whole_run

pub ends : (e : Bool) (cs : List ℕ) (n : ℕ) (s : SingleState) → length cs ≤ n
    → run (single_step e) s (drop n cs) ≡ run (single_step e) single_start cs → found_whole s ≡ found_text e cs
ends e cs n s past whole_run =
    ap (λ o. option_and_then found_whole o) (sym (ap (λ l. run (single_step e) s l) (drop_all n cs past)) ∙ whole_run)

-- what literals come to

abbrev pub found_literal : List Piece → Found
found_literal [] = More
found_literal (piece ∷ []) = One piece
found_literal (piece ∷ next ∷ pieces) = More

abbrev pub found_in : List (List Piece) → Found
found_in [] = Blank
found_in (literal ∷ []) = found_literal literal
found_in (literal ∷ next ∷ list) = More

literal_more : (l : List Piece) (q : Piece) → found_more (found_literal l) q ≡ More
literal_more [] q = refl
literal_more (p ∷ []) q = refl
literal_more (p ∷ next ∷ l) q = refl

list_more : (l : List Piece) (list : List (List Piece)) (q : Piece) → found_more (found_in (l ∷ list)) q ≡ More
list_more l [] q = literal_more l q
list_more l (next ∷ list) q = refl

pushed_piece : (p : Piece) (l : List Piece) (q : Piece) → found_literal (p ∷ (l ++ q ∷ [])) ≡ More
pushed_piece p [] q = refl
pushed_piece p (next ∷ l) q = refl

pushed_literal : (l : List Piece) (list : List (List Piece)) (m : List Piece) → found_in (l ∷ (list ++ m ∷ [])) ≡ More
pushed_literal l [] m = refl
pushed_literal l (next ∷ list) m = refl

found_push : (d : List (List Piece)) (o : List Piece) (p : Piece) → found_more (found_in (closed d o)) p ≡ found_in (closed d (o ++ p ∷ []))
found_push [] [] p = refl
found_push [] (x ∷ o) p = literal_more (x ∷ o) p ∙ sym (pushed_piece x o p)
found_push (l ∷ d) [] p = list_more l d p ∙ sym (pushed_literal l d (p ∷ []))
found_push (l ∷ d) (x ∷ o) p = list_more l (d ++ (x ∷ o) ∷ []) p ∙ sym (pushed_literal l d (x ∷ (o ++ p ∷ [])))

not_zero : (o : List Piece) (p : Piece) (b : Bool) → (length (o ++ p ∷ []) == 0) ≡ b → false ≡ b
not_zero o p true is =
    let none : length (o ++ p ∷ []) ≡ 0 = eqb-true _ 0 is in
    let sum = length-append o (p ∷ []) in
    absurd (omega (arith, none, sum))
not_zero o p false is = refl

-- both readers step alike

abbrev summary : State → SingleState
summary s =
    record { found = found_in (closed s.ended s.open_pieces); is_fresh = length s.open_pieces == 0; name = s.name; mark = s.mark }

letter_same : (b : Bool) (s : State) → cond b (Some (summary s)) None ≡ option_map summary (cond b (Some s) None)
letter_same true s = refl
letter_same false s = refl

abbrev made : Found → Bool → Mark → Option SingleState
made found fresh mark = Some (record { found = found; is_fresh = fresh; name = []; mark = mark })

acted_same : (s : State) (a : Act) → single_acted (summary s) a ≡ option_map summary (acted s a)
acted_same s (Move mark) = refl
acted_same s (Add piece before) =
    ap (λ f. made f false (Whole before)) (found_push s.ended s.open_pieces piece)
    ∙ ap (λ b. made (found_in (closed s.ended (s.open_pieces ++ piece ∷ []))) b (Whole before)) (not_zero s.open_pieces piece (length (s.open_pieces ++ piece ∷ []) == 0) refl)
acted_same s Close = refl
acted_same s (Letter c) =
    letter_same (begins_name (s.name ++ c ∷ [])) (record { ended = s.ended; open_pieces = s.open_pieces; name = s.name ++ c ∷ []; mark = Name })

step_at : (s : State) (o : Option Act) → option_and_then (single_acted (summary s)) o ≡ option_map summary (option_and_then (acted s) o)
step_at s None = refl
step_at s (Some a) = acted_same s a

step_same : (e : Bool) (s : State) (c : ℕ) → single_step e (summary s) c ≡ option_map summary (step e s c)
step_same e s c = step_at s (act (e && (length s.open_pieces == 0)) s.name s.mark c)

run_same : (e : Bool) (text : List ℕ) (s : State) → run (single_step e) (summary s) text ≡ option_map summary (run (step e) s text)
run_same e [] s = refl
run_same e (c ∷ text) s =
    ap (λ o. option_and_then (λ t. run (single_step e) t text) o) (step_same e s c)
    ∙ elim (step e s c) as (λ o. option_and_then (λ t. run (single_step e) t text) (option_map summary o)
    ≡ option_map summary (option_and_then (λ u. run (step e) u text) o)) [
      | None ↦ refl
      | Some u ↦ run_same e text u
    ]

-- what is found is told of the literals that are read

end_same : (s : State) (b : Bool) → cond b (Some (found_in (closed s.ended s.open_pieces))) None
    ≡ option_map found_in (cond b (Some (closed s.ended s.open_pieces)) None)
end_same s true = refl
end_same s false = refl

whole_same : (o : Option State) → option_and_then found_whole (option_map summary o) ≡ option_map found_in (literals_whole o)
whole_same None = refl
whole_same (Some s) = end_same s (accepts s)

pub found_same : (e : Bool) (text : List ℕ) → found_text e text ≡ option_map found_in (literals_reading e text)
unfolding literals_reading
found_same e text = ap (λ o. option_and_then found_whole o) (run_same e text start) ∙ whole_same (run (step e) start text)
