use Rattle.std.proofs.Common.{◌≡◌, ◌∷◌, ◌++◌, List, ap, arith, drop, length, refl, subst, sym}
use Rattle.std.specs.List.{AllZip}
use Rattle.std.specs.Vec.Iter.{into_iter_items, into_iter_len}
use Rattle.dfdl_statements.specs.declared.written.Written.{Written}
use Rattle.dfdl_written.specs.Noting.{HasItsNamespaces, IsAsNoted}
use Rattle.dfdl_written.specs.declared.noted.Noted.{Noted}
use Rattle.dfdl_written.proofs.Zipped.{left_end, left_more, none_left, zip_first, zip_rest}
use Rattle.dfdl_written.proofs.writing.written_with.Goals as goal

pub loop-one-init : goal.loop-one-init
loop-one-init c =
    let front = c.into_iter-one-iterator.ensures.into_iter_gives.0 in (
      subst (λ (xs : List Noted). AllZip (HasItsNamespaces c.args.schema.now) xs c.args.namespaces.now) (sym front) c.requires,
      omega (arith, c.into_iter-one-iterator.ensures.into_iter_gives.1, ap (λ (xs : List Noted). length xs) front, c.args.noted.ok.0),
      (λ rest all.
          subst (λ (xs : List Written). AllZip (IsAsNoted c.args.schema.now) c.args.noted.items (xs ++ rest)) (sym c.new-made.ensures.items)
          (subst (λ (xs : List Noted). AllZip (IsAsNoted c.args.schema.now) xs rest) front all)),
    )

pub loop-one-preserved : goal.loop-one-preserved
loop-one-preserved c =
    let steps : into_iter_items c.loop-one.one-iterator ≡ c.in-Some.one ∷ into_iter_items c.next.new.self = c.in-Some.ensures.steps.0 in
    let scope : AllZip (HasItsNamespaces c.args.schema.now) (c.in-Some.one ∷ into_iter_items c.next.new.self) (drop c.loop-one.at c.args.namespaces.now)
    = subst (λ (xs : List Noted). AllZip (HasItsNamespaces c.args.schema.now) xs (drop c.loop-one.at c.args.namespaces.now)) steps c.loop-one.invariant.0 in (
      zip_rest (HasItsNamespaces c.args.schema.now) c.in-Some.one (into_iter_items c.next.new.self) c.args.namespaces.now c.loop-one.at scope,
      omega (arith, c.in-Some.ensures.steps.1, ap (λ (xs : List Noted). length xs) steps, c.loop-one.invariant.1),
      left_more (IsAsNoted c.args.schema.now) c.in-Some.one (into_iter_items c.next.new.self) c.args.noted.items c.loop-one.made.items c.push.new.self.items _
          c.in_ok-push.ensures.items
          (record {
            source = refl;
            place = refl;
            prefixes = subst (λ m. HasItsNamespaces c.args.schema.now c.in-Some.one m) (sym c.index-namespaces-at.is)
                (zip_first (HasItsNamespaces c.args.schema.now) c.in-Some.one (into_iter_items c.next.new.self) c.args.namespaces.now c.loop-one.at
                c.index-namespaces-at.result scope);
          })
          (λ rest all. c.loop-one.invariant.2 rest (subst (λ (xs : List Noted). AllZip (IsAsNoted c.args.schema.now) xs rest) (sym steps) all)),
    )

pub returns : goal.returns
returns c =
    left_end (IsAsNoted c.args.schema.now) (into_iter_items c.loop-one.one-iterator) c.args.noted.items c.loop-one.made.items
    (none_left (into_iter_items c.loop-one.one-iterator) (into_iter_len c.loop-one.one-iterator) c.in-None.ensures.steps.0 c.loop-one.invariant.1)
    c.loop-one.invariant.2
