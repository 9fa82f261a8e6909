-- The texts of scopes and of the kinds of members.
use Rattle.std.specs.Prelude.{ℕ, List, [], ◌∷◌, codes, bytes_eq, Option, option_map, find}
use Rattle.cdi_base.specs.declared.scope.Scope.{Scope}
use Rattle.cdi_base.specs.declared.scope.Scope.TheVariants as scopes
use Rattle.cdi_form.specs.declared.form.Kind.{Kind}
use Rattle.cdi_form.specs.declared.form.Kind.TheVariants as kinds
use Rattle.cdi_form.specs.declared.words.Word.{Word as DeclaredWord}

-- a text, and what it stands for
pub record Word (X : Type 0) : Type 0 where
  pub text : List ℕ
  pub meaning : X

-- what a word of the code says
abbrev pub word_of : {X : Type 0} → DeclaredWord X → Word X
word_of w = record { text = w.text.now; meaning = w.meaning }

abbrev word : {X : Type 0} → List ℕ → X → Word X
word text meaning = record { text = text; meaning = meaning }

abbrev pub scope_words : List (Word Scope)
scope_words =
    word (codes "ApplicationScoped") scopes.ApplicationScoped
    ∷ word (codes "SessionScoped") scopes.SessionScoped
    ∷ word (codes "RequestScoped") scopes.RequestScoped
    ∷ word (codes "Dependent") scopes.Dependent ∷ []

abbrev pub member_words : List (Word Kind)
member_words =
    word (codes "method") kinds.Method
    ∷ word (codes "init") kinds.Initializer
    ∷ word (codes "post") kinds.PostConstruct
    ∷ word (codes "pre") kinds.PreDestroy
    ∷ word (codes "producer") kinds.Producer
    ∷ word (codes "field") kinds.ProducerField
    ∷ word (codes "disposer") kinds.Disposer
    ∷ word (codes "observer") kinds.Observer ∷ []

module _ {X : Type 0} where
  -- what a text stands for among some words
  abbrev pub meaning_in : List (Word X) → List ℕ → Option X
  meaning_in words text = option_map (λ w. w.meaning) (find (λ w. bytes_eq w.text text) words)

-- the scope of a text, if it is one
abbrev pub scope_named : List ℕ → Option Scope
scope_named text = meaning_in scope_words text

-- the kind of member that a text names, if it names one
abbrev pub member_kind : List ℕ → Option Kind
member_kind text = meaning_in member_words text
