-- The sources that properties resolve to end.
use Rattle.std.specs.Option.{option_or}
use Rattle.std.proofs.Common.{◌≡◌, ℕ, Bool, false, ◌&&◌, ◌==◌, List, Option, Some, None, refl, ap, subst, arith}
use Rattle.std.proofs.lemmas.Bool.Decides.{nat_tests}
use Rattle.cp_invlist.specs.InversionList.{is_code_point}
use Rattle.prop_binary.specs.Ecma262.{ecma262_number}
use Rattle.prop_data.specs.Tables.{Tables}
use Rattle.uset_grammar.specs.Text.{◌>>=◌}
use Rattle.uset_grammar.specs.Finite.{IsBounded}
use Rattle.uset_grammar.specs.Language.{Resolved}
use Rattle.uset_resolve.specs.Keys.{Asked, categories, extensions, values, key_of, falsy}
use Rattle.uset_resolve.specs.Resolution.{Source, in_group, with_extension, loosely, of_number, of_group, of_script, of_extension, of_binary, number_of_value, of_key, of_value, resolved, with_value, resolve_bytes}

-- code points that pass a test are code points
points_end : (test : ℕ → Bool) → IsBounded (λ c. is_code_point c && test c)
points_end test = record {
  bound = 0x11_0000;
  beyond = λ c past. let point : is_code_point c ≡ false = grind (arith, nat_tests) in ap (λ p. p && test c) point;
}

-- what is there ends
abbrev Ends : Option Source → Type 0
Ends o = (s : Source) → o ≡ Some s → IsBounded s

nothing_ends : Ends None
nothing_ends s h = absurd (let g = h in cc)

some_ends : (s : Source) → IsBounded s → Ends (Some s)
some_ends s ends t h = subst IsBounded (let same : s ≡ t = cc in same) ends

then_ends : {A : Type 0} (o : Option A) (f : A → Option Source) → ((a : A) → Ends (f a)) → Ends (o >>= f)
then_ends None f ends = nothing_ends
then_ends (Some a) f ends = ends a

else_ends : (a b : Option Source) → Ends a → Ends b → Ends (option_or a b)
else_ends None b first second = second
else_ends (Some s) b first second = first

resolved_ends : (negated : Bool) (o : Option Source) → Ends o → (r : Resolved) → resolved negated o ≡ Some r → IsBounded r.source
resolved_ends negated None ends r h = absurd (let g = h in cc)
resolved_ends negated (Some s) ends r h =
    let same : ◌≡◌ {A = Resolved} (record { falsy = negated; source = s }) r = (let g = h in cc) in
    subst (λ q. IsBounded q.source) same (ends s refl)

module _ (tables : Tables) (bounded : (t : ℕ) (members : ℕ → Bool) → tables.sets t ≡ Some members → IsBounded members) where
  of_number_ends : (t : ℕ) (number : Option ℕ) → Ends (of_number tables t number)
  of_number_ends t number =
      then_ends number _ (λ n. then_ends (tables.maps t) _ (λ map. some_ends _ (points_end (λ c. map c == n))))

  of_group_ends : (name : List ℕ) → Ends (of_group tables name)
  of_group_ends name =
      then_ends (loosely tables 17 name) _ (λ n. then_ends (tables.maps 3) _ (λ map. some_ends (in_group map n) (points_end _)))

  of_extension_ends : (name : List ℕ) → Ends (of_extension tables name)
  of_extension_ends name =
      then_ends (loosely tables 4 name) _ (λ script. then_ends tables.scripts _ (λ scripts. some_ends (with_extension tables.extensions scripts.values script) (points_end _)))

  of_binary_ends : (name : List ℕ) → Ends (of_binary tables name)
  of_binary_ends name = then_ends (ecma262_number name) tables.sets (λ t s h. bounded t s h)

  of_key_ends : (key : List ℕ) → Ends (of_key tables key)
  of_key_ends key =
      else_ends (of_group tables key) _ (of_group_ends key)
      (else_ends (of_script tables key) _ (of_number_ends 4 (loosely tables 4 key)) (of_binary_ends key))

  of_value_ends : (asked : Asked) (value : List ℕ) → Ends (of_value tables asked value)
  of_value_ends categories value = of_group_ends value
  of_value_ends extensions value = of_extension_ends value
  of_value_ends (values t) value = of_number_ends t (number_of_value tables t value)

  word_ends : (key : List ℕ) (f : Option Bool) (r : Resolved) → (f >>= λ b. resolved b (of_binary tables key)) ≡ Some r → IsBounded r.source
  word_ends key None r h = absurd (let g = h in cc)
  word_ends key (Some f) r h = resolved_ends f (of_binary tables key) (of_binary_ends key) r h

  with_value_ends : (key value : List ℕ) (asked : Option Asked) (r : Resolved) → with_value tables key value asked ≡ Some r → IsBounded r.source
  with_value_ends key value None r h = word_ends key (falsy value) r h
  with_value_ends key value (Some asked) r h = resolved_ends false (of_value tables asked value) (of_value_ends asked value) r h

  pub resolve_ends : (key : List ℕ) (value : Option (List ℕ)) (r : Resolved) → resolve_bytes tables key value ≡ Some r → IsBounded r.source
  resolve_ends key None r h = resolved_ends false (of_key tables key) (of_key_ends key) r h
  resolve_ends key (Some value) r h = with_value_ends key value (key_of key) r h
