-- The types that a deployment declares.
use Rattle.std.specs.Prelude.{List, [], ◌∷◌, ◌++◌, map, None}
use Rattle.cdi_base.specs.BuiltIn.{number_of}
use Rattle.cdi_base.specs.declared.built_in.BuiltIn.{BuiltIn}
use Rattle.cdi_base.specs.declared.built_in.BuiltIn.TheVariants as names
use Rattle.cdi_deployment.specs.declared.deployment.Class.{Class}
use Rattle.cdi_deployment.specs.declared.deployment.Deployment.{Deployment}
use Rattle.cdi_deployment.specs.declared.deployment.Interface.{Interface}
use Rattle.cdi_types.specs.declared.declaration.TypeDeclaration.{TypeDeclaration}

abbrev pub of_built_in : BuiltIn → TypeDeclaration
of_built_in class = record { name = number_of class; superclass = None; interfaces = [] }

abbrev pub of_interface : Interface → TypeDeclaration
of_interface interface =
    record { name = interface.name; superclass = None; interfaces = interface.extends }

abbrev pub of_class : Class → TypeDeclaration
of_class class =
    record { name = class.name; superclass = class.extends; interfaces = class.implements }

-- the built-in classes but for Object, the interfaces, and the classes
abbrev pub declarations_of : Deployment → List TypeDeclaration
declarations_of deployment =
    (of_built_in names.Startup ∷ of_built_in names.Shutdown ∷ [])
    ++ map of_interface deployment.interfaces ++ map of_class deployment.classes
