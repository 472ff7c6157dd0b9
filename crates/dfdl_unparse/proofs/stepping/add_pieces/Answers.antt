use Rattle.std.proofs.Common.{◌≡◌, ◌+◌, ◌-◌, ◌∷◌, [], ◌++◌, ℕ, List, Option, None, replicate, sym, ap, subst, ◌∙◌, arith, append_assoc, length-append}
use Rattle.std.proofs.lemmas.List.{length-replicate}
use Rattle.std.proofs.lemmas.Grind.{replicate_next}
use Rattle.dfdl_splice.specs.Splicing.{Spliced}
use Rattle.dfdl_unparse.specs.Splices.{IsSpliced}
use Rattle.dfdl_unparse.proofs.Stretches.{spliced_few, spliced_push}
use Rattle.dfdl_unparse.proofs.stepping.add_pieces.Goals as goal

pub add-requires-clause-room : goal.add-requires-clause-room
add-requires-clause-room c =
    let start = c.requires.spliced in
    let pieces = start.1 ++ replicate (c.adding.counter - c.args.front.now.added) None in
    let now : IsSpliced start.0 pieces start.2 c.adding.front = c.adding.invariant.3 start.0 start.1 start.2 start.3 in
    let few = spliced_few start.0 pieces start.2 c.adding.front now in
    omega (arith, few, now.added, c.adding.invariant.0, c.adding.invariant.2, c.requires.room)

pub adding-preserved : goal.adding-preserved
adding-preserved c =
    let inv = c.adding.invariant in
    let front = c.adding.front in
    let before = c.args.front.now.added in
    let is = c.add.ensures in (
      ap (λ (s : Spliced). s.most_pieces) is ∙ inv.0,
      ap (λ (s : Spliced). s.most_bytes) is ∙ inv.1,
      ap (λ (s : Spliced). s.added) is ∙ ap (λ (n : ℕ). n + 1) inv.2,
      λ order pieces dropped begun.
          let had = pieces ++ replicate (c.adding.counter - before) None in
          let now : IsSpliced order had dropped front = inv.3 order pieces dropped begun in
          let long = length-append pieces (replicate {A = Option (List ℕ)} (c.adding.counter - before) None) in
          let some = length-replicate {A = Option (List ℕ)} (c.adding.counter - before) None in
          let next : c.adding.counter - before + 1 ≡ c.adding.counter + 1 - before = omega (arith, now.added, inv.2, begun.added, long, some) in
          let all : had ++ None ∷ [] ≡ pieces ++ replicate (c.adding.counter + 1 - before) None =
          append_assoc pieces (replicate (c.adding.counter - before) None) (None ∷ [])
          ∙ (ap (λ (xs : List (Option (List ℕ))). pieces ++ xs) (sym (replicate_next (c.adding.counter - before) None))
          ∙ ap (λ (n : ℕ). pieces ++ replicate n None) next) in
          subst (λ (xs : List (Option (List ℕ))). IsSpliced order xs dropped c.add.new.self) all
          (subst (λ (s : Spliced). IsSpliced order (had ++ None ∷ []) dropped s) (sym is) (spliced_push order had dropped front now)),
    )

pub returns-clause-spliced : goal.returns-clause-spliced
returns-clause-spliced c = λ order pieces dropped begun.
    let end : c.adding.counter ≡ c.args.count = omega (arith, c.requires.more) in
    subst (λ (n : ℕ). IsSpliced order (pieces ++ replicate (n - c.args.front.now.added) None) dropped c.adding.front) end (c.adding.invariant.3 order pieces dropped begun)
