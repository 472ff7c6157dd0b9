-- One step of the loop that makes statements.
use Rattle.std.proofs.Common.{◌≡◌, ℕ, suc, ◌+◌, List, [], ◌∷◌, ◌++◌, Option, None, Result, Ok, Err, length, slice_index_or, refl, sym, ap, subst, ◌∙◌, append_assoc, append-nil, add-one, arith}
use Rattle.std.specs.List.{AllZip}
use Rattle.dfdl_expression_tree.specs.Trees.{Formula}
use Rattle.dfdl_expression_types.specs.declared.statics.Place.{Place}
use Rattle.dfdl_report.specs.declared.cause.SchemaCause.{SchemaCause}
use Rattle.dfdl_report.specs.declared.place.Place.{Place as Tag}
use Rattle.dfdl_terms.specs.declared.row.Row.{Row}
use Rattle.dfdl_terms.specs.declared.statement.Statement.{Statement}
use Rattle.dfdl_statements.specs.declared.fault.Refusal.{Refusal}
use Rattle.dfdl_statements.specs.declared.sight.Sight.{Sight}
use Rattle.dfdl_statements.specs.declared.written.Written.{Written}
use Rattle.dfdl_expression_types.specs.declared.statics.Statics.{Statics}
use Rattle.dfdl_statements.specs.declared.fault.Fault.{Fault}
use Rattle.dfdl_statements.specs.Making.{IsMadeOf, made}
use Rattle.dfdl_statements.specs.MakingShown.{Gives}
use Rattle.dfdl_statements.specs.Sights.{statics_of}
use Rattle.dfdl_statements.specs.Settled.{joined, made_at, made_from, made_where, place_of, places, refused_at}
use Rattle.dfdl_statements.specs.declared.fault.StatementFault.{StatementFault}
use Rattle.dfdl_statements.specs.declared.fault.StatementFault.TheVariants.{OutOfMemory, Refused}
use Rattle.dfdl_statements.specs.SettledShown.{Settles, SettlesOne, put_before}

moved : (xs : List Statement) (s : Statement) (w : Written) (others : Result (List Statement) Refusal)
    → put_before xs (joined w (Ok s) others) ≡ put_before (xs ++ (s ∷ [])) others
moved xs s w (Ok others) = ap Ok (sym (append_assoc xs (s ∷ []) others))
moved xs s w (Err why) = refl

pub refused_there : (w : Written) (why : SchemaCause) (at : Tag) → w.place ≡ at → (let r : Refusal = record { cause = why; place = at } in r) ≡ refused_at w why
refused_there w why at same = ap (λ (p : Tag). let r : Refusal = record { cause = why; place = p } in r) (sym same)

put_nothing : (r : Result (List Statement) Refusal) → put_before [] r ≡ r
put_nothing (Ok others) = refl
put_nothing (Err why) = refl

-- no items are left where their number is 0
pub none_left : {X : Type 0} (left : List X) (n : ℕ) → n ≡ 0 → n ≡ length left → left ≡ []
none_left [] n none many = refl
none_left (x ∷ left) n none many = absurd (omega (arith, none, many))

pub placed : (rows : List Row) (all : List Written) (table : List (Option Place)) (place : Option Place) (number n : ℕ) → table ≡ places rows all
    → place ≡ slice_index_or table number None → number ≡ n → place ≡ place_of rows all n
placed rows all table place number n same is counted =
    is ∙ (ap (λ t. slice_index_or t number None) same ∙ ap (λ k. slice_index_or (places rows all) k None) counted)

pub kinds_begun : (statements : List Statement) (all left : List Written) (others : List Statement) → statements ≡ [] → left ≡ all → AllZip IsMadeOf left others
    → AllZip IsMadeOf all (statements ++ others)
kinds_begun statements all left others none front zip =
    subst (λ ws. AllZip IsMadeOf ws (statements ++ others)) front (subst (λ ss. AllZip IsMadeOf left (ss ++ others)) (sym none) zip)

pub kinds_more : (xs ys : List Statement) (all ws left : List Written) (others : List Statement) (w : Written) (s : Statement) → left ≡ w ∷ ws → ys ≡ xs ++ (s ∷ [])
    → IsMadeOf w s → AllZip IsMadeOf ws others → ((zs : List Statement) → AllZip IsMadeOf left zs → AllZip IsMadeOf all (xs ++ zs))
    → AllZip IsMadeOf all (ys ++ others)
kinds_more xs ys all ws left others w s front grown kind zip before =
    subst (λ zs. AllZip IsMadeOf all (zs ++ others)) (sym grown)
    (subst (AllZip IsMadeOf all) (sym (append_assoc xs (s ∷ []) others))
    (before (s ∷ others) (subst (λ l. AllZip IsMadeOf l (s ∷ others)) (sym front) (kind, zip))))

pub kinds_ended : (xs : List Statement) (all left : List Written) → left ≡ [] → ((zs : List Statement) → AllZip IsMadeOf left zs → AllZip IsMadeOf all (xs ++ zs))
    → AllZip IsMadeOf all xs
kinds_ended xs all left none before =
    subst (AllZip IsMadeOf all) (append-nil xs) (before [] (subst (λ l. AllZip IsMadeOf l []) (sym none) tt))

module _ (read : List ℕ → Option Formula) (sight : Sight) (rows : List Row) (all : List Written) where
  pub begun : (xs : List Statement) (left : List Written) (n : ℕ) → xs ≡ [] → left ≡ all → n ≡ 0
      → put_before xs (made_from read sight rows all n left) ≡ made_from read sight rows all 0 all
  begun xs left n none front begins =
      ap (λ ys. put_before ys (made_from read sight rows all n left)) none
      ∙ (put_nothing (made_from read sight rows all n left)
      ∙ (ap (λ k. made_from read sight rows all k left) begins ∙ ap (made_from read sight rows all 0) front))

  pub one_more : (xs ys : List Statement) (n m : ℕ) (w : Written) (ws left : List Written) (s : Statement) (place : Option Place) (whole : Result (List Statement) Refusal)
      → put_before xs (made_from read sight rows all n left) ≡ whole → left ≡ w ∷ ws → place ≡ place_of rows all n → made_where read sight w place ≡ Ok s
      → ys ≡ xs ++ (s ∷ []) → m ≡ n + 1 → put_before ys (made_from read sight rows all m ws) ≡ whole
  one_more xs ys n m w ws left s place whole is front at due same count =
      let others = made_from read sight rows all (suc n) ws in
      let there : made_where read sight w (place_of rows all n) ≡ Ok s = subst (λ p. made_where read sight w p ≡ Ok s) at due in
      subst (λ k. put_before ys (made_from read sight rows all k ws) ≡ whole) (sym (count ∙ add-one n))
      (subst (λ zs. put_before zs others ≡ whole) (sym same)
      (sym (moved xs s w others)
      ∙ (sym (ap (λ d. put_before xs (joined w d others)) there)
      ∙ (sym (ap (λ l. put_before xs (made_from read sight rows all n l)) front) ∙ is))))

  one_refused : (xs : List Statement) (n : ℕ) (w : Written) (ws left : List Written) (cause : SchemaCause) (why : Refusal) (place : Option Place)
      (whole : Result (List Statement) Refusal)
      → put_before xs (made_from read sight rows all n left) ≡ whole → left ≡ w ∷ ws → place ≡ place_of rows all n → made_where read sight w place ≡ Err cause
      → why ≡ refused_at w cause → whole ≡ Err why
  one_refused xs n w ws left cause why place whole is front at due same =
      let others = made_from read sight rows all (suc n) ws in
      let there : made_where read sight w (place_of rows all n) ≡ Err cause = subst (λ p. made_where read sight w p ≡ Err cause) at due in
      sym is ∙ (ap (λ l. put_before xs (made_from read sight rows all n l)) front
      ∙ (ap (λ d. put_before xs (joined w d others)) there ∙ ap Err (sym same)))

  pub one_fault : (Y : Type 0) (xs : List Statement) (n : ℕ) (w : Written) (ws left : List Written) (place : Option Place) (fault : StatementFault)
      (whole : Result (List Statement) Refusal)
      → put_before xs (made_from read sight rows all n left) ≡ whole → left ≡ w ∷ ws → place ≡ place_of rows all n
      → SettlesOne w (made_where read sight w place) (Err fault) → Settles {Y = Y} whole (Err fault)
  one_fault Y xs n w ws left place OutOfMemory whole is front at due = tt
  one_fault Y xs n w ws left place (Refused why) whole is front at due =
      one_refused xs n w ws left due.0 why place whole is front at due.1 due.2

  pub ended : (xs : List Statement) (n : ℕ) (left : List Written) (whole : Result (List Statement) Refusal)
      → put_before xs (made_from read sight rows all n left) ≡ whole → left ≡ [] → whole ≡ Ok xs
  ended xs n left whole is front =
      sym is ∙ (ap (λ l. put_before xs (made_from read sight rows all n l)) front ∙ ap Ok (append-nil xs))

module _ (read : List ℕ → Option Formula) (sight : Sight) (w : Written) (place : Place) (s : Statics) where
  -- what is told where a statement is made, or isn't
  pub told_made : (one : Statement) → s ≡ statics_of sight w place → Gives (made read s w.source) (Ok one) → made_at read sight w place ≡ Ok one
  told_made one sees given = ap (λ t. made read t w.source) (sym sees) ∙ given

  pub told_refused : (fault : Fault) → s ≡ statics_of sight w place → Gives {X = Statement} (made read s w.source) (Err fault)
      → Gives {X = Statement} (made_at read sight w place) (Err fault)
  told_refused fault sees given = subst (λ t. Gives {X = Statement} (made read t w.source) (Err fault)) sees given
