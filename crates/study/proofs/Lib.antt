mod Defaults
